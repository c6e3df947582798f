-- What is found in the place of a key part is the leaf there, and a key part is found again before what does not
-- continue with it.
--
-- `key_at` chooses by the first byte: a run of bare bytes, a basic string or a literal string. What each of these finds
-- is a leaf, and the longest: a run by `run_found` and `run_longest`, strings by their own laws (`basic_found`,
-- `basic_longest`, `literal_found`, `literal_longest`). None is empty (`key_found`). For the other direction, the first
-- byte of a key part is the one that chooses its kind (`basic_first`, `literal_first`, `bare_first`). So a string is
-- found again whatever follows it (`basic_again`, `literal_again`), and a bare key where no bare byte follows
-- (`bare_again`). The leaf at a place is found too: a string by cutting the text after it (`cut`), a bare key because
-- two longest runs are the same (`longest_one`).
--
-- Theorems: `key_leaf`: what is found is the leaf; `key_one`: the leaf is found; `key_again`: a key part is found again
-- before what does not continue with it.
use Rattle.std.proofs.Common.{◌≡◌, ℕ, zero, suc, ◌<◌, ◌≤◌, true, false, ◌==◌, List, [], ◌∷◌, ◌++◌, length, take, drop}
use Rattle.std.proofs.Common.{Option, Some, None, refl, sym, ap, ◌∙◌, subst, inl, inr, arith}
use Rattle.std.proofs.lemmas.Bool.{and_parts}
use Rattle.std.proofs.lemmas.List.{length-take, take-append-drop}
use Rattle.std.specs.List.{prefix_len, list_all}
use Rattle.keep_types.specs.declared.leaf.Profile.{Profile}
use Rattle.keep_types.specs.declared.leaf.Leaf.{Leaf}
use Rattle.keep_types.specs.declared.leaf.Leaf.TheVariants as leaf
use Rattle.keep_token.specs.Abnf.{Longest, Some1, is_bare}
use Rattle.keep_token.specs.Leaves.{IsLeaf, KeyLeaf, is_key_leaf}
use Rattle.keep_token.specs.Pieces.{first, basic_at, literal_at}
use Rattle.keep_token.specs.Scanning.{key_at, with_kind}
use Rattle.keep_token.proofs.GapLaws.{tested, prefix_len-run, run_found}
use Rattle.keep_token.proofs.GapLeaves.{run_longest, longest_one}
use Rattle.keep_token.proofs.Ends.{some_injective}
use Rattle.keep_token.proofs.StringKinds.{basic_found, basic_again, basic_longest, literal_found, literal_again}
use Rattle.keep_token.proofs.StringKinds.{literal_longest}
use Rattle.keep_token.proofs.StringPrefixes.{basic_first, literal_first}

-- a kind with a length that was found
pub with_kind_is : (k : Leaf) (o : Option ℕ) (l : Leaf) (n : ℕ) → with_kind k o ≡ Some (l, n) → (l ≡ k) × (o ≡ Some n)
with_kind_is k None l n e = absurd (let f : ◌≡◌ {A = Option (Leaf × ℕ)} None (Some (l, n)) = e in cc)
with_kind_is k (Some m) l n e =
    let same : ◌≡◌ {A = Leaf × ℕ} (k, m) (l, n) = some_injective e in
    (sym (ap (λ (p : Leaf × ℕ). p.0) same), ap (λ (p : Leaf × ℕ). Some p.1) same)

-- a text in two parts
pub cut : (text : List ℕ) (n : ℕ) → n ≤ length text → (take n text ++ drop n text ≡ text) × (length (take n text) ≡ n)
cut text n le = (take-append-drop n text, omega (arith, length-take n text))

-- ---- what is found

bare_leaf : (profile : Profile) (text : List ℕ) → is_bare (first text) ≡ true
    → KeyLeaf profile text leaf.BareKey (prefix_len is_bare text)
bare_leaf profile text e =
    let (some, within, run) = run_found is_bare text refl e in
    record {
      kind = refl;
      leaf = record { within = within; belongs = run; longest = λ m le h. run_longest is_bare text m le h.1 };
    }

basic_leaf : (profile : Profile) (text : List ℕ) (n : ℕ) → (first text == 0x22) ≡ true → basic_at profile text ≡ Some n
    → KeyLeaf profile text leaf.Basic n
basic_leaf profile text n e found =
    let (some, within, belongs) = basic_found profile text n e found in
    record {
      kind = refl;
      leaf = record { within = within; belongs = belongs; longest = basic_longest profile text n found };
    }

literal_leaf : (profile : Profile) (text : List ℕ) (n : ℕ) → (first text == 0x27) ≡ true → literal_at text ≡ Some n
    → KeyLeaf profile text leaf.Literal n
literal_leaf profile text n e found =
    let (some, within, belongs) = literal_found text n e found in
    record { kind = refl; leaf = record { within = within; belongs = belongs; longest = literal_longest text n found } }

pub key_leaf : (profile : Profile) (text : List ℕ) (l : Leaf) (n : ℕ) → key_at profile text ≡ Some (l, n)
    → KeyLeaf profile text l n
unfolding key_at
key_leaf profile text l n at =
    elim (tested (is_bare (first text))) [
      | inl e ↦
          let found : ◌≡◌ {A = Option (Leaf × ℕ)} (Some (leaf.BareKey, prefix_len is_bare text)) (Some (l, n)) =
          rw e at at in
          let same : ◌≡◌ {A = Leaf × ℕ} (leaf.BareKey, prefix_len is_bare text) (l, n) = some_injective found in
          subst (λ (p : Leaf × ℕ). KeyLeaf profile text p.0 p.1) same (bare_leaf profile text e)
      | inr e ↦ elim (tested (first text == 0x22)) [
        | inl f ↦
            let (kind, found) = with_kind_is leaf.Basic (basic_at profile text) l n (rw (e, f) at at) in
            rw kind (basic_leaf profile text n f found)
        | inr f ↦ elim (tested (first text == 0x27)) [
          | inl g ↦
              let (kind, found) = with_kind_is leaf.Literal (literal_at text) l n (rw (e, f, g) at at) in
              rw kind (literal_leaf profile text n g found)
          | inr g ↦ absurd (let none : ◌≡◌ {A = Option (Leaf × ℕ)} None (Some (l, n)) = rw (e, f, g) at at in cc)
        ]
      ]
    ]

-- ---- a key part is found again

basic_key : (profile : Profile) (text : List ℕ) (n : ℕ) → first text ≡ 0x22 → basic_at profile text ≡ Some n
    → key_at profile text ≡ Some (leaf.Basic, n)
unfolding key_at
basic_key profile text n e found = rw (e, found) refl

literal_key : (profile : Profile) (text : List ℕ) (n : ℕ) → first text ≡ 0x27 → literal_at text ≡ Some n
    → key_at profile text ≡ Some (leaf.Literal, n)
unfolding key_at
literal_key profile text n e found = rw (e, found) refl

bare_key : (profile : Profile) (text : List ℕ) → is_bare (first text) ≡ true
    → key_at profile text ≡ Some (leaf.BareKey, prefix_len is_bare text)
unfolding key_at
bare_key profile text e = rw e refl

bare_again : (profile : Profile) (t rest : List ℕ) → Some1 is_bare t → is_bare (first rest) ≡ false
    → key_at profile (t ++ rest) ≡ Some (leaf.BareKey, length t)
bare_again profile [] rest h stop = absurd (omega (arith, h.0))
bare_again profile (c ∷ cs) rest h stop =
    let here = (and_parts (is_bare c) (list_all is_bare cs) h.1).0 in
    bare_key profile ((c ∷ cs) ++ rest) here
    ∙ ap (λ (n : ℕ). Some (leaf.BareKey, n)) (prefix_len-run is_bare (c ∷ cs) rest h.1 stop)

pub key_again : (profile : Profile) (l : Leaf) (t rest : List ℕ) → is_key_leaf l ≡ true → IsLeaf profile l t
    → is_bare (first rest) ≡ false → key_at profile (t ++ rest) ≡ Some (l, length t)
key_again profile leaf.BareKey t rest k h stop = bare_again profile t rest h stop
key_again profile leaf.Basic t rest k h stop =
    basic_key profile (t ++ rest) (length t) (basic_first profile t rest h) (basic_again profile t rest h)
key_again profile leaf.Literal t rest k h stop =
    literal_key profile (t ++ rest) (length t) (literal_first t rest h) (literal_again t rest h)
key_again profile _ t rest k h stop = absurd cc

-- ---- the leaf in the place of a key part is found

bare_first : (text : List ℕ) (n : ℕ) → Some1 is_bare (take n text) → is_bare (first text) ≡ true
bare_first text zero h = absurd (omega (arith, h.0))
bare_first [] (suc n) h = absurd (omega (arith, h.0))
bare_first (c ∷ cs) (suc n) h = (and_parts (is_bare c) (list_all is_bare (take n cs)) h.1).0

key_one_by : (profile : Profile) (text : List ℕ) (l : Leaf) (n : ℕ) → is_key_leaf l ≡ true
    → Longest (IsLeaf profile l) text n → key_at profile text ≡ Some (l, n)
key_one_by profile text leaf.BareKey n k h =
    let e = bare_first text n h.belongs in
    let same = longest_one (Some1 is_bare) text (prefix_len is_bare text) n (bare_leaf profile text e).leaf h in
    bare_key profile text e ∙ ap (λ (m : ℕ). Some (leaf.BareKey, m)) same
key_one_by profile text leaf.Basic n k h =
    let (whole, len) = cut text n h.within in
    subst (λ (u : List ℕ). key_at profile u ≡ Some (leaf.Basic, n)) whole
    (basic_key profile (take n text ++ drop n text) (length (take n text))
    (basic_first profile (take n text) (drop n text) h.belongs)
    (basic_again profile (take n text) (drop n text) h.belongs)
    ∙ ap (λ (m : ℕ). Some (leaf.Basic, m)) len)
key_one_by profile text leaf.Literal n k h =
    let (whole, len) = cut text n h.within in
    subst (λ (u : List ℕ). key_at profile u ≡ Some (leaf.Literal, n)) whole
    (literal_key profile (take n text ++ drop n text) (length (take n text))
    (literal_first (take n text) (drop n text) h.belongs) (literal_again (take n text) (drop n text) h.belongs)
    ∙ ap (λ (m : ℕ). Some (leaf.Literal, m)) len)
key_one_by profile text _ n k h = absurd cc

pub key_one : (profile : Profile) (text : List ℕ) (l : Leaf) (n : ℕ) → KeyLeaf profile text l n
    → key_at profile text ≡ Some (l, n)
key_one profile text l n h = key_one_by profile text l n h.kind h.leaf

key_some : (profile : Profile) (l : Leaf) (t : List ℕ) → is_key_leaf l ≡ true → IsLeaf profile l t → 0 < length t
key_some profile leaf.BareKey t k h = h.0
key_some profile leaf.Basic t k (pieces, h) = rw h.spelled (omega arith)
key_some profile leaf.Literal t k (pieces, h) = rw h.spelled (omega arith)
key_some profile _ t k h = absurd cc

pub key_found : (profile : Profile) (text : List ℕ) (l : Leaf) (n : ℕ) → key_at profile text ≡ Some (l, n)
    → (is_key_leaf l ≡ true) × (0 < n) × (n ≤ length text) × IsLeaf profile l (take n text)
key_found profile text l n at =
    let h = key_leaf profile text l n at in
    let some = key_some profile l (take n text) h.kind h.leaf.belongs in
    (h.kind, omega (arith, length-take n text), h.leaf.within, h.leaf.belongs)
