-- A path text is read step by step: what is found is a step of it, and each of its steps is found.
--
-- `SoFar` is kept at each step: the bytes that were read are the text of the path so far, and each path that has the
-- whole text continues from that path with the bytes that are left. A step that is read keeps it (`so_far_more`), for a
-- key after a dot (`key_step`), the first key and an index in brackets (`index_step`): the text of a step ends where
-- the scan of it ends, as what follows a step can't be part of it (`steps_stop`). At the end of the text the path is
-- its only one.
--
-- Theorems: `so_far_more`, `so_far_first` and `so_far_done`; `dot_stuck` for a dot without a key.
use Rattle.std.proofs.Common.{◌≡◌, ℕ, suc, ◌+◌, ◌<◌, ◌≤◌, true, false, List, [], ◌∷◌, ◌++◌, length, take, drop, refl}
use Rattle.std.proofs.Common.{sym, ap, ◌∙◌, subst, arith, append_assoc, append-nil, length-drop, length-append, Option}
use Rattle.std.proofs.Common.{Some, None}
use Rattle.std.proofs.lemmas.List.{drop-drop, drop-take, drop_all, drop_at, take-append-drop, take-take, take_all}
use Rattle.std.proofs.lemmas.List.{take_at}
use Rattle.keep_types.specs.declared.leaf.Leaf.{Leaf}
use Rattle.keep_types.specs.declared.leaf.Leaf.TheVariants as leaf
use Rattle.keep_types.specs.declared.leaf.Profile.TheVariants.{Strict, Wide}
use Rattle.keep_token.specs.Abnf.{is_bare}
use Rattle.keep_token.specs.Leaves.{IsLeaf, is_key_leaf, Means}
use Rattle.keep_token.specs.Pieces.{first}
use Rattle.keep_token.specs.Scanning.{key_at}
use Rattle.keep_token.proofs.Shared.{some_injective, key_found, key_again, means_one, means_wider}
use Rattle.std.specs.Fmt.{decimal}
use Rattle.keep_path.proofs.IndexLaws.{index_one}
use Rattle.keep_path.specs.Path.{Part, key, index}
use Rattle.keep_path.specs.PathText.{index_text, KeyText, StepText, StepsText, IsPathText}
use Rattle.keep_path.specs.PathReading.{KeyRead, StepRead}

-- ---- what is found is a step

-- one more step
steps_more : (parts : List Part) (part : Part) (prefix text : List ℕ) → StepsText parts prefix → StepText part text
    → StepsText (parts ++ part ∷ []) (prefix ++ text)
steps_more [] part prefix text h s = (text, [], rw h (sym (append-nil text)), s, refl)
steps_more (p ∷ parts) part prefix text (a, b, e, x, more) s =
    (a, b ++ text, rw e (append_assoc a b text), x, steps_more parts part b text more s)

pub stated_more : (path : List Part) (part : Part) (prefix text : List ℕ) → IsPathText prefix path → (path ≡ [] → ⊥)
    → StepText part text → IsPathText (prefix ++ text) (path ++ part ∷ [])
stated_more [] part prefix text h some s = absurd (some refl)
stated_more (key value ∷ parts) part prefix text (a, b, e, k, more) some s =
    (a, b ++ text, rw e (append_assoc a b text), k, steps_more parts part b text more s)
stated_more (index n ∷ parts) part prefix text h some s = absurd h

-- ---- what may follow a key part

pub steps_stop : (parts : List Part) (rest : List ℕ) → StepsText parts rest → is_bare (first rest) ≡ false
steps_stop [] rest h = rw h refl
steps_stop (key value ∷ parts) rest (a, b, e, (x, y, e2, dot, k), more) = rw (e, e2, dot) refl
steps_stop (index n ∷ parts) rest (a, b, e, (small, is), more) = rw (e, is) refl

-- ---- each key is found

-- the meaning of a key part found in Strict
strict_means : (l : Leaf) (t value : List ℕ) → is_key_leaf l ≡ true → IsLeaf Strict l t → Means Wide l t value
    → Means Strict l t value
strict_means leaf.BareKey t value k h m = m
strict_means leaf.Basic t value k (pieces, h) m =
    let own : Means Strict leaf.Basic t _ = (pieces, h, refl) in
    rw (means_one Wide leaf.Basic t value _ m (means_wider leaf.Basic t _ own)) own
strict_means leaf.Literal t value k h m = m
strict_means _ t value k h m = absurd cc

pub key_stated_of : (l : Leaf) (t value : List ℕ) → is_key_leaf l ≡ true → IsLeaf Strict l t → Means Wide l t value
    → KeyText value t
key_stated_of l t value k h m = (l, k, h, strict_means l t value k h m)

pub key_at_start : (value : List ℕ) (parts : List Part) (text : List ℕ) → (a b : List ℕ) → text ≡ a ++ b
    → KeyText value a → StepsText parts b
    → (l : Leaf) × (key_at Strict text ≡ Some (l, length a)) × Means Strict l a value
key_at_start value parts text a b e (l, k, h, m) more =
    (l, rw e (key_again Strict l a b k h (steps_stop parts b more)), m)

-- ---- what is read so far

-- the first bytes tell the path, and each path that the text tells continues from there
pub record SoFar (text : List ℕ) (path : List Part) (at : ℕ) : Type 0 where
  pub within : at ≤ length text
  pub stated : IsPathText (take at text) path
  pub some : path ≡ [] → ⊥
  pub all : (q : List Part) → IsPathText text q
      → (rest : List Part) × (q ≡ path ++ rest) × StepsText rest (drop at text)

take_more : (at n : ℕ) (text : List ℕ) → take (at + n) text ≡ take at text ++ take n (drop at text)
take_more at n text =
    sym (take-append-drop at (take (at + n) text))
    ∙ rw (drop-take at n text, take-take at (at + n) text (omega arith)) refl

not_empty : (path : List Part) (part : Part) → path ++ part ∷ [] ≡ [] → ⊥
not_empty [] part e = cc
not_empty (p ∷ path) part e = cc

-- one more step
pub so_far_more : (text : List ℕ) (path : List Part) (at n : ℕ) (part : Part) → SoFar text path at
    → StepRead (drop at text) part n → SoFar text (path ++ part ∷ []) (at + n)
so_far_more text path at n part h read = record {
  within = omega (arith, h.within, read.within, length-drop at text);
  stated =
      rw (take_more at n text) (stated_more path part (take at text) (take n (drop at text)) h.stated h.some read.step);
  some = not_empty path part;
  all = λ q k.
      let r = h.all q k in
      let s = read.first r.0 r.2 in (
        s.0,
        r.1 ∙ ap (λ (t : List Part). path ++ t) s.1
            ∙ sym (append_assoc path (part ∷ []) s.0),
        rw (← drop-drop n at text) s.2,
      );
}

-- ---- what comes before the steps that are left

steps_none : (rest : List Part) → StepsText rest [] → rest ≡ []
steps_none [] h = refl
steps_none (key value ∷ parts) (a, b, e, (x, y, e2, dot, k), more) =
    let never : ⊥ = no_prefix a b x y 0x2E [] e e2 dot in absurd never
  where
    no_prefix : (a b x y : List ℕ) (c : ℕ) (cs : List ℕ) → [] ≡ a ++ b → a ≡ x ++ y → x ≡ c ∷ cs → ⊥
    no_prefix a b x y c cs e e2 is =
        let f : [] ≡ (c ∷ cs ++ y) ++ b = e ∙ ap (λ (t : List ℕ). t ++ b) (e2 ∙ ap (λ (t : List ℕ). t ++ y) is) in cc
steps_none (index n ∷ parts) (a, b, e, (small, is), more) =
    let f : [] ≡ index_text n ++ b = e ∙ ap (λ (t : List ℕ). t ++ b) is in absurd cc

pub record KeyFirst (value : List ℕ) (parts : List Part) (text : List ℕ) : Type 0 where
  pub part : List ℕ
  pub after : List ℕ
  pub spelled : text ≡ 0x2E ∷ (part ++ after)
  pub is_key : KeyText value part
  pub more : StepsText parts after

pub key_first : (value : List ℕ) (parts : List Part) (text : List ℕ) → StepsText (key value ∷ parts) text
    → KeyFirst value parts text
key_first value parts text (a, b, e, (x, y, e2, dot, k), more) =
    record { part = y; after = b; spelled = e ∙ rw (e2, dot) refl; is_key = k; more = more }

pub record IndexFirst (n : ℕ) (parts : List Part) (text : List ℕ) : Type 0 where
  pub after : List ℕ
  pub small : n < 1_000_000_000
  pub spelled : text ≡ index_text n ++ after
  pub more : StepsText parts after

pub index_first : (n : ℕ) (parts : List Part) (text : List ℕ) → StepsText (index n ∷ parts) text
    → IndexFirst n parts text
index_first n parts text (a, b, e, (small, is), more) =
    record { after = b; small = small; spelled = e ∙ ap (λ (t : List ℕ). t ++ b) is; more = more }

-- the whole text is read
pub so_far_done : (text : List ℕ) (path : List Part) (at : ℕ) → length text ≤ at → SoFar text path at
    → IsPathText text path × ((q : List Part) → IsPathText text q → q ≡ path)
so_far_done text path at end h =
    let P : List ℕ → Type 0 = λ t. IsPathText t path in
    let only : (q : List Part) → IsPathText text q → q ≡ path = λ q k.
    let r = h.all q k in
    r.1 ∙ ap (λ (t : List Part). path ++ t) (steps_none r.0 (rw (drop_all at text end) at r.2)) ∙ append-nil path in
    (subst P (take_all at text end) h.stated, only)

-- ---- a key after a dot

same_key : (l k : Leaf) (n : ℕ) (t b value v : List ℕ) → ◌≡◌ {A = Option (Leaf × ℕ)} (Some (k, length t)) (Some (l, n))
    → Means Strict k t v → Means Wide l (take n (t ++ b)) value → (v ≡ value) × (drop n (t ++ b) ≡ b)
same_key l k n t b value v e m w =
    let pair : ◌≡◌ {A = Leaf × ℕ} (k, length t) (l, n) = some_injective e in
    let kind : k ≡ l = ap (λ (p : Leaf × ℕ). p.0) pair in
    let count : length t ≡ n = ap (λ (p : Leaf × ℕ). p.1) pair in
    let P : List ℕ → Type 0 = λ s. Means Wide l s value in
    let Q : Leaf → Type 0 = λ s. Means Wide s t v in (
      means_one Wide l t v value (subst Q kind (means_wider k t v m)) (subst P (take_at t b n count) w),
      drop_at t b n count,
    )

-- the rest begins with a dot and the key that was found
pub key_step : (more : List ℕ) (l : Leaf) (n : ℕ) (value : List ℕ) → key_at Strict more ≡ Some (l, n)
    → Means Wide l (take n more) value
    → (rest : List Part) → StepsText rest (0x2E ∷ more)
    → (parts : List Part) × (rest ≡ key value ∷ parts) × StepsText parts (drop n more)
key_step more l n value at m [] h = absurd cc
key_step more l n value at m (index k ∷ parts) h =
    let f = index_first k parts (0x2E ∷ more) h in
    let e : ◌≡◌ {A = List ℕ} (0x2E ∷ more) (index_text k ++ f.after) = f.spelled in
    let never : ◌≡◌ {A = ℕ} 0x2E 0x5B = ap (λ (t : List ℕ). first t) e in
    absurd (omega (arith, never))
key_step more l n value at m (key v ∷ parts) h =
    let f = key_first v parts (0x2E ∷ more) h in
    let e : more ≡ f.part ++ f.after = ap (λ (t : List ℕ). drop 1 t) f.spelled in
    let found = key_at_start v parts more f.part f.after e f.is_key f.more in
    let P : List ℕ → Type 0 = λ t. Means Wide l (take n t) value in
    let same = same_key l found.0 n f.part f.after value v (sym found.1 ∙ at) found.2 (subst P e m) in
    let Q : List ℕ → Type 0 = λ t. StepsText parts (drop n t) in
    (parts, ap (λ (t : List ℕ). key t ∷ parts) same.0, subst Q (sym e) (rw same.1 f.more))

pub dot_read : (more : List ℕ) (n : ℕ) (value : List ℕ) → KeyRead more value n
    → StepRead (0x2E ∷ more) (key value) (suc n)
dot_read more n value (l, found, m) =
    let f = key_found Strict more l n found in
    record {
      some = omega arith;
      within = omega (arith, f.2);
      step = (0x2E ∷ [], take n more, refl, refl, key_stated_of l (take n more) value f.0 f.3 m);
      first = λ rest k. key_step more l n value found m rest k;
    }

-- no step begins with a dot where no key part comes after it
pub dot_stuck : (more : List ℕ) → key_at Strict more ≡ None → (rest : List Part) → StepsText rest (0x2E ∷ more)
    → rest ≡ []
dot_stuck more none [] h = refl
dot_stuck more none (index i ∷ parts) h =
    let f = index_first i parts (0x2E ∷ more) h in
    let never : ◌≡◌ {A = ℕ} 0x2E 0x5B = ap (λ (t : List ℕ). first t) f.spelled in
    absurd (omega (arith, never))
dot_stuck more none (key v ∷ parts) h =
    let f = key_first v parts (0x2E ∷ more) h in
    let e : more ≡ f.part ++ f.after = ap (λ (t : List ℕ). drop 1 t) f.spelled in
    let found = key_at_start v parts more f.part f.after e f.is_key f.more in
    let never : ◌≡◌ {A = Option (Leaf × ℕ)} None (Some (found.0, length f.part)) = sym none ∙ found.1 in
    absurd cc

-- ---- the first key

first_step : (text : List ℕ) (l : Leaf) (n : ℕ) (value : List ℕ) → key_at Strict text ≡ Some (l, n)
    → Means Wide l (take n text) value
    → (q : List Part) → IsPathText text q
    → (parts : List Part) × (q ≡ key value ∷ parts) × StepsText parts (drop n text)
first_step text l n value at m [] h =
    let f = key_found Strict text l n at in absurd (omega (arith, f.1, f.2, ap (λ (t : List ℕ). length t) h))
first_step text l n value at m (index i ∷ parts) h = absurd h
first_step text l n value at m (key v ∷ parts) (a, b, e, k, more) =
    let found = key_at_start v parts text a b e k more in
    let P : List ℕ → Type 0 = λ t. Means Wide l (take n t) value in
    let same = same_key l found.0 n a b value v (sym found.1 ∙ at) found.2 (subst P e m) in
    let Q : List ℕ → Type 0 = λ t. StepsText parts (drop n t) in
    (parts, ap (λ (t : List ℕ). key t ∷ parts) same.0, subst Q (sym e) (rw same.1 more))

pub so_far_first : (text : List ℕ) (l : Leaf) (n : ℕ) (value : List ℕ) → key_at Strict text ≡ Some (l, n)
    → Means Wide l (take n text) value → SoFar text (key value ∷ []) n
so_far_first text l n value at m =
    let f = key_found Strict text l n at in
    record {
      within = f.2;
      stated = (take n text, [], sym (append-nil (take n text)), key_stated_of l (take n text) value f.0 f.3 m, refl);
      some = λ e. cc;
      all = λ q k. first_step text l n value at m q k;
    }

-- ---- an index in brackets

pub index_after : (more : List ℕ) (i : ℕ) (parts : List Part) → StepsText (index i ∷ parts) (0x5B ∷ more)
    → (after : List ℕ) × (i < 1_000_000_000) × (more ≡ decimal i ++ 0x5D ∷ after) × StepsText parts after
index_after more i parts h =
    let f = index_first i parts (0x5B ∷ more) h in
    (f.after, f.small, ap (λ (t : List ℕ). drop 1 t) f.spelled ∙ append_assoc (decimal i) (0x5D ∷ []) f.after, f.more)

-- the rest begins with the index that was read
index_step : (more after : List ℕ) (n : ℕ) → n < 1_000_000_000 → more ≡ decimal n ++ 0x5D ∷ after
    → (rest : List Part) → StepsText rest (0x5B ∷ more)
    → (parts : List Part) × (rest ≡ index n ∷ parts) × StepsText parts after
index_step more after n small is [] h = absurd cc
index_step more after n small is (key v ∷ parts) h =
    let never : ◌≡◌ {A = ℕ} 0x5B 0x2E = ap (λ (t : List ℕ). first t) (key_first v parts (0x5B ∷ more) h).spelled in
    absurd (omega (arith, never))
index_step more after n small is (index i ∷ parts) h =
    let f = index_after more i parts h in
    let same = index_one i n f.0 after f.1 small (sym f.2 ∙ is) in
    (parts, ap (λ (k : ℕ). index k ∷ parts) same.0, rw (← same.1) f.3)

pub bracket_read : (more : List ℕ) (n k : ℕ) → n < 1_000_000_000 → more ≡ (decimal n ++ 0x5D ∷ []) ++ drop k more
    → k ≡ length (decimal n ++ 0x5D ∷ []) → StepRead (0x5B ∷ more) (index n) (suc k)
bracket_read more n k small is count =
    let prefix : take k more ≡ decimal n ++ 0x5D ∷ [] =
    ap (λ (t : List ℕ). take k t) is ∙ take_at (decimal n ++ 0x5D ∷ []) (drop k more) k (sym count) in
    let fits : k ≤ length more =
    omega (arith, ap (λ (t : List ℕ). length t) is, length-append (decimal n ++ 0x5D ∷ []) (drop k more), count) in
    record {
      some = omega arith;
      within = omega (arith, fits);
      step = (small, ap (λ (t : List ℕ). 0x5B ∷ t) prefix);
      first = λ rest s.
          index_step more (drop k more) n small (is ∙ append_assoc (decimal n) (0x5D ∷ []) (drop k more)) rest s;
    }
