-- What is read as a value is spelled so, within the limit.
--
-- `value_takes` is an induction over the depth that is left: the entries of a bracket are values of one level less. So
-- all other lemmas assume that the values inside are read rightly (`ReadsValues`). One entry is a name, a value, and
-- what follows it (`named_takes`, `after_takes`, `item_takes`). An iteration of the loop over entries ends in one of
-- three ways: at the closing bracket, after the last entry, or after a comma (`entry_cases`). `entries_take` joins the
-- iterations to a list of entries; there the hard case is a comma, which may end the list only where the profile allows
-- it (`may_end`).
--
-- Theorem: `value_takes`: a value that is read is valid, no deeper than the limit, and has the text that was read.
use Rattle.std.proofs.Common.{◌≡◌, ℕ, zero, suc, ◌<◌, ◌≤◌, Bool, true, false, not, ◌&&◌, ◌||◌, ◌==◌, List, [], ◌∷◌}
use Rattle.std.proofs.Common.{◌++◌, length, take, drop, Option, Some, None, Ok, Err, refl, sym, ap, ◌∙◌, subst, inl}
use Rattle.std.proofs.Common.{inr, arith, append_assoc, eqb-true}
use Rattle.std.specs.List.{prefix_len}
use Rattle.std.proofs.lemmas.Bool.Decides.{nat_tests}
use Rattle.std.proofs.lemmas.List.{append-nil, take-append-drop, length-drop}
use Rattle.keep_types.specs.declared.leaf.Profile.{Profile}
use Rattle.keep_types.specs.declared.leaf.Profile.TheVariants.{Strict, Wide}
use Rattle.keep_types.specs.declared.leaf.Leaf.{Leaf}
use Rattle.keep_types.specs.declared.leaf.Leaf.TheVariants as leaf
use Rattle.keep_token.specs.Abnf.{is_word}
use Rattle.keep_token.specs.Leaves.{word_len}
use Rattle.keep_token.specs.Words.{word_leaf}
use Rattle.keep_token.specs.Scanning.{first, scalar_at, with_len}
use Rattle.keep_token.proofs.Shared.{tested, scalar_found}
use Rattle.keep_syntax.specs.declared.info.Brackets.{Brackets}
use Rattle.keep_syntax.specs.declared.info.Brackets.TheVariants as brackets
use Rattle.keep_syntax.specs.Tree.{Written, Gap, Name, scalar, Entries, none, entry, Value, text_of, token}
use Rattle.keep_syntax.specs.Tree.{named_leaves, comma_leaves, entries_leaves, value_leaves, value_text, entries_depth}
use Rattle.keep_syntax.specs.Tree.{value_depth}
use Rattle.keep_syntax.specs.Grammar.{IsGap, IsNamed, MayEndInComma, IsComma, AreEntries, IsValue}
use Rattle.keep_syntax.specs.Reading.{Deep, Read, ◌>>=◌, Iteration, continues, ready, written, open_byte, close_byte}
use Rattle.keep_syntax.specs.Reading.{body_in, is_free, gap_in, name_of, join, Item, entry_of, named_in, after_by}
use Rattle.keep_syntax.specs.Reading.{item_by, iteration_of, entry_by, entries_by, bracket_by, scalar_of, value_by}
use Rattle.keep_syntax.specs.Reading.{value_of}
use Rattle.keep_syntax.proofs.LoopLaws.{bind_ok, ok_is, Shortens, repeat_holds}
use Rattle.keep_syntax.proofs.SpaceLaws.{text_of-append, is_solid, place_of, gap_takes, gap_shortens}
use Rattle.keep_syntax.proofs.KeyLaws.{first_is, key_first_solid, name_takes}

-- ---- joined entries

pub join-assoc : (a b c : Entries) → join (join a b) c ≡ join a (join b c)
join-assoc none b c = refl
join-assoc (entry name body nested after comma rest) b c =
    ap (λ (r : Entries). entry name body nested after comma r) (join-assoc rest b c)

pub join-none : (a : Entries) → join a none ≡ a
join-none none = refl
join-none (entry name body nested after comma rest) =
    ap (λ (r : Entries). entry name body nested after comma r) (join-none rest)

-- ---- texts by parts

pub bracket_text : (b : Brackets) (g : Gap) (nested : Entries) (rest : List ℕ)
    → value_text (record { body = body_in b g; nested = nested }) ++ rest ≡ open_byte b
    ∷ (text_of g ++ (text_of (entries_leaves nested) ++ (close_byte b ∷ rest)))
bracket_text b g nested rest = by b
  where
    parts : (l k : Leaf) (o c : ℕ)
        → text_of ((token l (o ∷ []) ++ g) ++ (entries_leaves nested ++ token k (c ∷ []))) ++ rest ≡ o
        ∷ (text_of g ++ (text_of (entries_leaves nested) ++ (c ∷ rest)))
    parts l k o c =
        let e = entries_leaves nested in
        let z = token k (c ∷ []) in
        let one : text_of ((token l (o ∷ []) ++ g) ++ (e ++ z)) ≡ o ∷ (text_of g ++ (text_of e ++ text_of z)) =
        ap (λ (t : List ℕ). o ∷ t) (text_of-append g (e ++ z)
        ∙ ap (λ (t : List ℕ). text_of g ++ t) (text_of-append e z)) in
        ap (λ (t : List ℕ). t ++ rest) one
        ∙ ap (λ (t : List ℕ). o ∷ t) (append_assoc (text_of g) (text_of e ++ text_of z) rest
        ∙ ap (λ (t : List ℕ). text_of g ++ t) (append_assoc (text_of e) (text_of z) rest))

    by : (b : Brackets)
        → value_text (record { body = body_in b g; nested = nested }) ++ rest ≡ open_byte b
        ∷ (text_of g ++ (text_of (entries_leaves nested) ++ (close_byte b ∷ rest)))
    by brackets.Array = parts leaf.ArrayOpen leaf.ArrayClose 0x5B 0x5D
    by brackets.Inline = parts leaf.InlineOpen leaf.InlineClose 0x7B 0x7D

abbrev pub item_leaves : Item → List Written
item_leaves i = named_leaves i.name ++ (value_leaves i.value ++ (i.after ++ comma_leaves i.comma))

pub entry_leaves : (i : Item) (rest : Entries) → entries_leaves (entry_of i rest) ≡ item_leaves i ++ entries_leaves rest
entry_leaves i rest = simp append_assoc

pub item_text : (i : Item) (x : List ℕ)
    → text_of (item_leaves i) ++ x ≡ text_of (named_leaves i.name)
    ++ (value_text i.value ++ (text_of i.after ++ (text_of (comma_leaves i.comma) ++ x)))
item_text i x = parts (named_leaves i.name) (value_leaves i.value) i.after (comma_leaves i.comma)
  where
    parts : (a b c d : List Written)
        → text_of (a ++ (b ++ (c ++ d))) ++ x ≡ text_of a ++ (text_of b ++ (text_of c ++ (text_of d ++ x)))
    parts a b c d =
        rw (text_of-append a (b ++ (c ++ d)), text_of-append b (c ++ d), text_of-append c d) (simp append_assoc)

pub entry_text : (i : Item) (rest : Entries) (x : List ℕ)
    → text_of (entries_leaves (entry_of i rest)) ++ x ≡ text_of (item_leaves i) ++ (text_of (entries_leaves rest) ++ x)
entry_text i rest x =
    ap (λ (ws : List Written). text_of ws ++ x) (entry_leaves i rest)
    ∙ ap (λ (t : List ℕ). t ++ x) (text_of-append (item_leaves i) (entries_leaves rest))
    ∙ append_assoc (text_of (item_leaves i)) (text_of (entries_leaves rest)) x

-- ---- what values begin with

-- a byte that begins a scalar
abbrev pub is_scalar_first : ℕ → Bool
is_scalar_first c = (is_word c || c == 0x22) || c == 0x27

-- a byte that begins a value
abbrev pub is_value_first : ℕ → Bool
is_value_first c = (is_scalar_first c || c == 0x5B) || c == 0x7B

pub value_first_solid : (c : ℕ) → is_value_first c ≡ true → is_solid c ≡ true
value_first_solid c h = grind (arith, nat_tests)

pub close_solid : (b : Brackets) (text : List ℕ) → (first text == close_byte b) ≡ true → is_solid (first text) ≡ true
close_solid brackets.Array text e = rw (eqb-true (first text) 0x5D e) refl
close_solid brackets.Inline text e = rw (eqb-true (first text) 0x7D e) refl

-- no word is where no byte of one is
word_len_none : (text : List ℕ) → is_word (first text) ≡ false → word_len text ≡ 0
word_len_none text e = let run : prefix_len is_word text ≡ 0 = by text e in rw run refl
  where
    by : (text : List ℕ) → is_word (first text) ≡ false → prefix_len is_word text ≡ 0
    by [] e = refl
    by (c ∷ cs) e = rw e refl

abbrev found : Leaf × ℕ → Option (Leaf × ℕ)
found x = Some x

found_is : (x y : Leaf × ℕ) → found x ≡ found y → x ≡ y
found_is x y e = cc

pub scalar_first_at : (profile : Profile) (text : List ℕ) (l : Leaf) (n : ℕ) → scalar_at profile text ≡ Some (l, n)
    → 0 < n → is_scalar_first (first text) ≡ true
unfolding scalar_at
scalar_first_at profile text l n e some =
    elim (tested (is_word (first text))) [
      | inl f ↦ rw f refl
      | inr f ↦ elim (tested (first text == 0x22)) [
        | inl g ↦ rw (f, g) refl
        | inr g ↦ elim (tested (first text == 0x27)) [
          | inl h ↦ rw (f, g, h) refl
          | inr h ↦
              absurd (of_word (word_leaf profile (take (word_len text) text)) (word_len text) (word_len_none text f)
              (rw (g, h) at e))
        ]
      ]
    ]
  where
    of_word : (o : Option Leaf) (m : ℕ) → m ≡ 0 → with_len o m ≡ Some (l, n) → ⊥
    of_word None m z k = absurd cc
    of_word (Some x) m z k =
        let same : m ≡ n = ap (λ (p : Leaf × ℕ). p.1) (found_is (x, m) (l, n) k) in
        omega arith

-- ---- scalars

pub record TookValue (profile : Profile) (depth_left : ℕ) (text : List ℕ) (v : Value) (rest : List ℕ) : Type 0 where
  pub valid : IsValue profile v
  pub shallow : value_depth v ≤ depth_left
  pub spelled : text ≡ value_text v ++ rest
  pub shorter : length rest < length text
  pub begins : is_value_first (first text) ≡ true

scalar_begins_value : (c : ℕ) → is_scalar_first c ≡ true → is_value_first c ≡ true
scalar_begins_value c h = rw h refl

pub scalar_takes : (profile : Profile) (depth_left : ℕ) (text : List ℕ) (v : Value) (rest : List ℕ)
    → scalar_of text (scalar_at profile text) ≡ Ok (v, rest) → TookValue profile depth_left text v rest
scalar_takes profile depth_left text v rest h = by (scalar_at profile text) refl h
  where
    by : (o : Option (Leaf × ℕ)) → scalar_at profile text ≡ o → scalar_of text o ≡ Ok (v, rest)
        → TookValue profile depth_left text v rest
    by None is e = absurd cc
    by (Some (l, n)) is e =
        let (kind, some, within, belongs) = scalar_found profile text l n is in
        let made : Value × List ℕ = (record { body = scalar (written l n text); nested = none }, drop n text) in
        subst (λ (x : Value × List ℕ). TookValue profile depth_left text x.0 x.1) (ok_is made (v, rest) e) (record {
          valid = record { body = (kind, belongs); nested = tt };
          shallow = omega arith;
          spelled = sym (rw (append-nil (take n text)) (take-append-drop n text));
          shorter = omega (arith, length-drop n text);
          begins = scalar_begins_value (first text) (scalar_first_at profile text l n is some);
        })

-- ---- entries

-- what comes after an entry
abbrev pub After : Profile → Brackets → Option Gap → List ℕ → Type 0
After profile b None rest = (first rest == close_byte b) ≡ true
After profile b (Some g) rest =
    (is_solid (first rest) ≡ true → IsGap profile (place_of b) g)
    × ((not (is_free profile b) && first rest == close_byte b) ≡ false)

pub record TookItem (profile : Profile) (b : Brackets) (depth_left : ℕ) (text : List ℕ) (i : Item)
    (rest : List ℕ) : Type 0 where
  pub named : IsNamed profile (place_of b) i.name
  pub valid : IsValue profile i.value
  pub shallow : value_depth i.value ≤ depth_left
  pub gap : IsGap profile (place_of b) i.after
  pub after : After profile b i.comma rest
  pub spelled : text ≡ text_of (item_leaves i) ++ rest
  pub shorter : length rest < length text
  pub begins : is_solid (first text) ≡ true

abbrev pub ReadsValues : Profile → ℕ → (List ℕ → Read Value) → Type 0
ReadsValues profile depth_left value =
    (text : List ℕ) (v : Value) (rest : List ℕ) → value text ≡ Ok (v, rest) → TookValue profile depth_left text v rest

pub record TookNamed (profile : Profile) (b : Brackets) (text : List ℕ) (n : Option Name) (rest : List ℕ) : Type 0 where
  pub valid : IsNamed profile (place_of b) n
  pub spelled : text ≡ text_of (named_leaves n) ++ rest
  pub shorter : length rest ≤ length text
  pub begins : is_solid (first rest) ≡ true → is_solid (first text) ≡ true

pub named_takes : (profile : Profile) (b : Brackets) (text : List ℕ) (n : Option Name) (rest : List ℕ)
    → named_in profile b text ≡ Ok (n, rest) → TookNamed profile b text n rest
named_takes profile brackets.Array text n rest h =
    let made : Option Name × List ℕ = (None, text) in
    subst (λ (x : Option Name × List ℕ). TookNamed profile brackets.Array text x.0 x.1) (ok_is made (n, rest) h)
    (record { valid = tt; spelled = refl; shorter = omega arith; begins = λ s. s })
named_takes profile brackets.Inline text n rest h =
    let (x, e1, e2) = bind_ok (name_of profile text) (λ n. Ok (Some n.0, n.1)) (n, rest) h in
    let t = name_takes profile text x.0 x.1 e1 in
    let made : Option Name × List ℕ = (Some x.0, x.1) in
    subst (λ (x : Option Name × List ℕ). TookNamed profile brackets.Inline text x.0 x.1) (ok_is made (n, rest) e2)
    (record {
      valid = t.valid;
      spelled = t.spelled;
      shorter = omega (arith, t.shorter);
      begins = λ s. key_first_solid (first text) t.begins;
    })

-- what follows a value
record TookAfter (profile : Profile) (b : Brackets) (name : Option Name) (v : Value) (text : List ℕ) (i : Item)
    (rest : List ℕ) : Type 0 where
  same_name : i.name ≡ name
  same_value : i.value ≡ v
  gap : IsGap profile (place_of b) i.after
  after : After profile b i.comma rest
  spelled : text ≡ text_of i.after ++ (text_of (comma_leaves i.comma) ++ rest)
  shorter : length rest ≤ length text

after_takes : (profile : Profile) (b : Brackets) (name : Option Name) (v : Value) (text : List ℕ) (i : Item)
    (rest : List ℕ) → after_by profile b name v (gap_in profile b text) ≡ Ok (i, rest)
    → TookAfter profile b name v text i rest
after_takes profile b name v text i rest h =
    let a = gap_in profile b text in
    let ga = gap_takes profile b text in
    elim (tested (first a.1 == 0x2C)) [
      | inl e ↦
          let k = gap_in profile b (drop 1 a.1) in
          let gk = gap_takes profile b (drop 1 a.1) in
          let comma : a.1 ≡ 0x2C ∷ drop 1 a.1 = first_is 0x2C a.1 (omega arith) e in
          let solid : is_solid (first a.1) ≡ true = rw (eqb-true (first a.1) 0x2C e) refl in
          let made : Item × List ℕ = (record { name = name; value = v; after = a.0; comma = Some k.0 }, k.1) in
          elim (tested (not (is_free profile b) && first k.1 == close_byte b)) [
            | inl f ↦ absurd (let bad = rw (e, f) at h in cc)
            | inr f ↦
                subst (λ (x : Item × List ℕ). TookAfter profile b name v text x.0 x.1)
                (ok_is made (i, rest) (rw (e, f) at h)) (record {
                  same_name = refl;
                  same_value = refl;
                  gap = ga.valid solid;
                  after = (gk.valid, f);
                  spelled =
                      ga.spelled
                      ∙ ap (λ (x : List ℕ). text_of a.0 ++ x) (comma ∙ ap (λ (x : List ℕ). 0x2C ∷ x) gk.spelled);
                  shorter =
                      omega (arith, gap_shortens profile b text, gap_shortens profile b (drop 1 a.1), ap length comma);
                })
          ]
      | inr e ↦ elim (tested (first a.1 == close_byte b)) [
        | inl f ↦
            let made : Item × List ℕ = (record { name = name; value = v; after = a.0; comma = None }, a.1) in
            subst (λ (x : Item × List ℕ). TookAfter profile b name v text x.0 x.1)
            (ok_is made (i, rest) (rw (e, f) at h)) (record {
              same_name = refl;
              same_value = refl;
              gap = ga.valid (close_solid b a.1 f);
              after = f;
              spelled = ga.spelled;
              shorter = gap_shortens profile b text;
            })
        | inr f ↦ absurd (let bad = rw (e, f) at h in cc)
      ]
    ]

pub item_takes : (profile : Profile) (b : Brackets) (depth_left : ℕ) (value : List ℕ → Read Value)
    → ReadsValues profile depth_left value → (text : List ℕ) (i : Item) (rest : List ℕ)
    → item_by profile b value text ≡ Ok (i, rest) → TookItem profile b depth_left text i rest
unfolding item_by
item_takes profile b depth_left value sound text i rest h =
    let (n, e1, e2) =
    bind_ok (named_in profile b text) (λ n. value n.1 >>= λ v. after_by profile b n.0 v.0 (gap_in profile b v.1))
    (i, rest) h in
    let (v, e3, e4) = bind_ok (value n.1) (λ v. after_by profile b n.0 v.0 (gap_in profile b v.1)) (i, rest) e2 in
    let tn = named_takes profile b text n.0 n.1 e1 in
    let tv = sound n.1 v.0 v.1 e3 in
    let ta = after_takes profile b n.0 v.0 v.1 i rest e4 in
    record {
      named = subst (λ (x : Option Name). IsNamed profile (place_of b) x) (sym ta.same_name) tn.valid;
      valid = subst (λ (x : Value). IsValue profile x) (sym ta.same_value) tv.valid;
      shallow = subst (λ (x : Value). value_depth x ≤ depth_left) (sym ta.same_value) tv.shallow;
      gap = ta.gap;
      after = ta.after;
      spelled =
          tn.spelled
          ∙ ap (λ (x : List ℕ). text_of (named_leaves n.0) ++ x)
          (tv.spelled ∙ ap (λ (x : List ℕ). value_text v.0 ++ x) ta.spelled)
          ∙ ap (λ (m : Option Name).
          text_of (named_leaves m) ++ (value_text v.0 ++ (text_of i.after ++ (text_of (comma_leaves i.comma) ++ rest))))
          (sym ta.same_name)
          ∙ ap (λ (w : Value).
          text_of (named_leaves i.name) ++ (value_text w
          ++ (text_of i.after ++ (text_of (comma_leaves i.comma) ++ rest)))) (sym ta.same_value)
          ∙ sym (item_text i rest);
      shorter = omega (arith, tn.shorter, tv.shorter, ta.shorter);
      begins = tn.begins (value_first_solid (first n.1) tv.begins);
    }

pub record Took (profile : Profile) (b : Brackets) (depth_left : ℕ) (text : List ℕ) (es : Entries)
    (rest : List ℕ) : Type 0 where
  pub valid : AreEntries profile (place_of b) es
  pub shallow : entries_depth es ≤ depth_left
  pub spelled : text ≡ text_of (entries_leaves es) ++ rest
  pub closed : (first rest == close_byte b) ≡ true
  pub begins : is_solid (first text) ≡ true
  pub shorter : length rest ≤ length text

pub took_none : (profile : Profile) (b : Brackets) (depth_left : ℕ) (text : List ℕ)
    → (first text == close_byte b) ≡ true → Took profile b depth_left text none text
took_none profile b depth_left text closed =
    record {
      valid = tt;
      shallow = omega arith;
      spelled = refl;
      closed = closed;
      begins = close_solid b text closed;
      shorter = omega arith;
    }

-- where a comma may end the entries
pub may_end : (profile : Profile) (b : Brackets) → is_free profile b ≡ true → MayEndInComma profile (place_of b)
may_end Strict brackets.Array free = tt
may_end Wide brackets.Array free = tt
may_end Strict brackets.Inline free = absurd cc
may_end Wide brackets.Inline free = tt

is_comma : (profile : Profile) (b : Brackets) (g : Gap) (back : Entries) (depth_left : ℕ) (text rest : List ℕ)
    → After profile b (Some g) text → Took profile b depth_left text back rest
    → IsComma profile (place_of b) (Some g) back
is_comma profile b g none depth_left text rest h t =
    let closes : (first text == close_byte b) ≡ true =
    ap (λ (x : List ℕ). first x == close_byte b) t.spelled ∙ t.closed in
    (h.0 t.begins, may_end profile b (free (is_free profile b) (rw closes at h.1)))
  where
    free : (f : Bool) → (not f && true) ≡ false → f ≡ true
    free true e = refl
    free false e = absurd cc
is_comma profile b g (entry name body nested after comma more) depth_left text rest h t = h.0 t.begins

-- an entry before entries that were read
took_entry : (profile : Profile) (b : Brackets) (depth_left : ℕ) (text : List ℕ) (i : Item) (text' : List ℕ)
    (back : Entries) (rest : List ℕ) → TookItem profile b depth_left text i text'
    → IsComma profile (place_of b) i.comma back → Took profile b depth_left text' back rest
    → Took profile b depth_left text (entry_of i back) rest
took_entry profile b depth_left text i text' back rest ti comma t = record {
  valid = (ti.named, ti.valid.body, ti.valid.nested, ti.gap, comma, t.valid);
  shallow = omega (arith, ti.shallow, t.shallow);
  spelled = ti.spelled ∙ ap (λ (x : List ℕ). text_of (item_leaves i) ++ x) t.spelled ∙ sym (entry_text i back rest);
  closed = t.closed;
  begins = ti.begins;
  shorter = omega (arith, ti.shorter, t.shorter);
}

-- what an iteration does
pub data EntryIteration (profile : Profile) (b : Brackets) (depth_left : ℕ) (prefix : Entries) (text : List ℕ)
    (t : Iteration Entries Entries) (rest : List ℕ) : Type 0 where
  at_close : (first text == close_byte b) ≡ true → t ≡ ready prefix → rest ≡ text
      → EntryIteration profile b depth_left prefix text t rest
  at_last : (i : Item) → i.comma ≡ None → t ≡ ready (join prefix (entry_of i none))
      → TookItem profile b depth_left text i rest → EntryIteration profile b depth_left prefix text t rest
  at_comma : (i : Item) (g : Gap) → i.comma ≡ Some g → t ≡ continues (join prefix (entry_of i none))
      → TookItem profile b depth_left text i rest → EntryIteration profile b depth_left prefix text t rest

pub entry_cases : (profile : Profile) (b : Brackets) (depth_left : ℕ) (value : List ℕ → Read Value)
    → ReadsValues profile depth_left value
    → (prefix : Entries) (text : List ℕ) (t : Iteration Entries Entries) (rest : List ℕ)
    → entry_by profile b value prefix text ≡ Ok (t, rest) → EntryIteration profile b depth_left prefix text t rest
unfolding entry_by
entry_cases profile b depth_left value sound prefix text t rest h =
    elim (tested (first text == close_byte b)) [
      | inl e ↦
          let same = ok_is (ready prefix, text) (t, rest) (rw e at h) in
          at_close e (sym (ap (λ (x : Iteration Entries Entries × List ℕ). x.0) same))
          (sym (ap (λ (x : Iteration Entries Entries × List ℕ). x.1) same))
      | inr e ↦
          let (i, e1, e2) =
          bind_ok (item_by profile b value text) (λ i. Ok (iteration_of prefix i.0 i.0.comma, i.1)) (t, rest)
          (rw e at h) in
          let ti = item_takes profile b depth_left value sound text i.0 i.1 e1 in
          let same = ok_is (iteration_of prefix i.0 i.0.comma, i.1) (t, rest) e2 in
          by i.0 i.0.comma refl (sym (ap (λ (x : Iteration Entries Entries × List ℕ). x.0) same))
          (subst (λ (r : List ℕ). TookItem profile b depth_left text i.0 r)
          (ap (λ (x : Iteration Entries Entries × List ℕ). x.1) same) ti)
    ]
  where
    by : (i : Item) (c : Option Gap) → i.comma ≡ c → t ≡ iteration_of prefix i c
        → TookItem profile b depth_left text i rest → EntryIteration profile b depth_left prefix text t rest
    by i None is e ti = at_last i is e ti
    by i (Some g) is e ti = at_comma i g is e ti

abbrev on_iteration : Entries → Iteration Entries Entries
on_iteration s = continues s

abbrev ready_iteration : Entries → Iteration Entries Entries
ready_iteration s = ready s

pub entry_shortens : (profile : Profile) (b : Brackets) (depth_left : ℕ) (value : List ℕ → Read Value)
    → ReadsValues profile depth_left value → Shortens (entry_by profile b value)
entry_shortens profile b depth_left value sound s text s' rest h =
    elim (entry_cases profile b depth_left value sound s text (continues s') rest h) [
      | at_close c e r ↦ absurd (let f : on_iteration s' ≡ ready_iteration s = e in cc)
      | at_last i is e ti ↦ absurd (let f : on_iteration s' ≡ ready_iteration (join s (entry_of i none)) = e in cc)
      | at_comma i g is e ti ↦ ti.shorter
    ]

pub record TookEntries (profile : Profile) (b : Brackets) (depth_left : ℕ) (prefix : Entries) (text : List ℕ)
    (es : Entries) (rest : List ℕ) : Type 0 where
  pub back : Entries
  pub grown : es ≡ join prefix back
  pub took : Took profile b depth_left text back rest

pub entries_take : (profile : Profile) (b : Brackets) (depth_left : ℕ) (value : List ℕ → Read Value)
    → ReadsValues profile depth_left value → (prefix : Entries) (text : List ℕ) (es : Entries) (rest : List ℕ)
    → entries_by profile b value prefix text ≡ Ok (es, rest) → TookEntries profile b depth_left prefix text es rest
entries_take profile b depth_left value sound prefix text es rest h =
    repeat_holds (entry_by profile b value) (TookEntries profile b depth_left) last on (suc (length text)) prefix text
    es rest h
  where
    ready_is : (x y : Entries) → ready_iteration x ≡ ready_iteration y → x ≡ y
    ready_is x y e = cc

    on_is : (x y : Entries) → on_iteration x ≡ on_iteration y → x ≡ y
    on_is x y e = cc

    last : (s : Entries) (text : List ℕ) (es : Entries) (rest : List ℕ)
        → entry_by profile b value s text ≡ Ok (ready es, rest) → TookEntries profile b depth_left s text es rest
    last s text es rest e =
        elim (entry_cases profile b depth_left value sound s text (ready es) rest e) [
          | at_close c k r ↦
              record {
                back = none;
                grown = ready_is es s k
                    ∙ sym (join-none s);
                took = subst (λ (x : List ℕ). Took profile b depth_left text none x) (sym r)
                    (took_none profile b depth_left text c);
              }
          | at_last i is k ti ↦
              let closed : (first rest == close_byte b) ≡ true =
              subst (λ (c : Option Gap). After profile b c rest) is ti.after in
              record {
                back = entry_of i none;
                grown = ready_is es (join s (entry_of i none)) k;
                took = took_entry profile b depth_left text i rest none rest ti
                    (subst (λ (c : Option Gap). IsComma profile (place_of b) c none) (sym is) tt)
                    (took_none profile b depth_left rest closed);
              }
          | at_comma i g is k ti ↦
              absurd (let f : ready_iteration es ≡ on_iteration (join s (entry_of i none)) = k in cc)
        ]

    on : (s : Entries) (text : List ℕ) (s' : Entries) (text' : List ℕ) (es : Entries) (rest : List ℕ)
        → entry_by profile b value s text ≡ Ok (continues s', text') → TookEntries profile b depth_left s' text' es rest
        → TookEntries profile b depth_left s text es rest
    on s text s' text' es rest e t =
        elim (entry_cases profile b depth_left value sound s text (continues s') text' e) [
          | at_close c k r ↦ absurd (let f : on_iteration s' ≡ ready_iteration s = k in cc)
          | at_last i is k ti ↦ absurd (let f : on_iteration s' ≡ ready_iteration (join s (entry_of i none)) = k in cc)
          | at_comma i g is k ti ↦
              let after : After profile b (Some g) text' =
              subst (λ (c : Option Gap). After profile b c text') is ti.after in
              let comma : IsComma profile (place_of b) i.comma t.back =
              subst (λ (c : Option Gap). IsComma profile (place_of b) c t.back) (sym is)
              (is_comma profile b g t.back depth_left text' rest after t.took) in
              record {
                back = entry_of i t.back;
                grown = t.grown ∙ ap (λ (x : Entries). join x t.back) (on_is s' (join s (entry_of i none)) k)
                    ∙ join-assoc s (entry_of i none) t.back;
                took = took_entry profile b depth_left text i text' t.back rest ti comma t.took;
              }
        ]

-- ---- brackets

pub bracket_valid : (profile : Profile) (b : Brackets) (g : Gap) (nested : Entries) → IsGap profile (place_of b) g
    → AreEntries profile (place_of b) nested → IsValue profile (record { body = body_in b g; nested = nested })
bracket_valid profile brackets.Array g nested h k = record { body = h; nested = k }
bracket_valid profile brackets.Inline g nested h k = record { body = h; nested = k }

pub bracket_depth : (b : Brackets) (g : Gap) (nested : Entries)
    → value_depth (record { body = body_in b g; nested = nested }) ≡ suc (entries_depth nested)
bracket_depth brackets.Array g nested = refl
bracket_depth brackets.Inline g nested = refl

pub open_some : (b : Brackets) → 0 < open_byte b
open_some brackets.Array = omega arith
open_some brackets.Inline = omega arith

pub close_some : (b : Brackets) → 0 < close_byte b
close_some brackets.Array = omega arith
close_some brackets.Inline = omega arith

pub open_begins : (b : Brackets) (text : List ℕ) → (first text == open_byte b) ≡ true
    → is_value_first (first text) ≡ true
open_begins brackets.Array text e = rw (eqb-true (first text) 0x5B e) refl
open_begins brackets.Inline text e = rw (eqb-true (first text) 0x7B e) refl

pub bracket_takes : (profile : Profile) (depth_left : ℕ) (value : List ℕ → Read Value)
    → ReadsValues profile depth_left value → (b : Brackets) (text : List ℕ) (v : Value) (rest : List ℕ)
    → (first text == open_byte b) ≡ true → bracket_by profile value b text ≡ Ok (v, rest)
    → TookValue profile (suc depth_left) text v rest
bracket_takes profile depth_left value sound b text v rest opens h =
    let g = gap_in profile b (drop 1 text) in
    let gg = gap_takes profile b (drop 1 text) in
    let (es, e1, e2) =
    bind_ok (entries_by profile b value none g.1)
    (λ es. Ok (record { body = body_in b g.0; nested = es.0 }, drop 1 es.1)) (v, rest) h in
    let te = entries_take profile b depth_left value sound none g.1 es.0 es.1 e1 in
    let t : Took profile b depth_left g.1 es.0 es.1 =
    subst (λ (x : Entries). Took profile b depth_left g.1 x es.1) (sym te.grown) te.took in
    let made : Value × List ℕ = (record { body = body_in b g.0; nested = es.0 }, drop 1 es.1) in
    let opened : text ≡ open_byte b ∷ drop 1 text = first_is (open_byte b) text (open_some b) opens in
    let closed : es.1 ≡ close_byte b ∷ drop 1 es.1 = first_is (close_byte b) es.1 (close_some b) t.closed in
    subst (λ (x : Value × List ℕ). TookValue profile (suc depth_left) text x.0 x.1) (ok_is made (v, rest) e2) (record {
      valid = bracket_valid profile b g.0 es.0 (gg.valid t.begins) t.valid;
      shallow = omega (arith, t.shallow, bracket_depth b g.0 es.0);
      spelled =
          opened ∙ ap (λ (x : List ℕ). open_byte b ∷ x)
          (gg.spelled
          ∙ ap (λ (x : List ℕ). text_of g.0 ++ x)
          (t.spelled ∙ ap (λ (x : List ℕ). text_of (entries_leaves es.0) ++ x) closed))
          ∙ sym (bracket_text b g.0 es.0 (drop 1 es.1));
      shorter = omega (arith, ap length opened, ap length closed, gap_shortens profile b (drop 1 text), t.shorter);
      begins = open_begins b text opens;
    })

-- ---- values

pub value_by_takes : (profile : Profile) (depth_left : ℕ) (bracket : Brackets → List ℕ → Read Value) (text : List ℕ)
    (v : Value) (rest : List ℕ)
    → ((b : Brackets) → (first text == open_byte b) ≡ true → bracket b text ≡ Ok (v, rest)
    → TookValue profile depth_left text v rest) → value_by profile bracket text ≡ Ok (v, rest)
    → TookValue profile depth_left text v rest
value_by_takes profile depth_left bracket text v rest sound h =
    elim (tested (first text == 0x5B)) [
      | inl e ↦ sound brackets.Array e (rw e at h)
      | inr e ↦ elim (tested (first text == 0x7B)) [
        | inl f ↦ sound brackets.Inline f (rw (e, f) at h)
        | inr f ↦ scalar_takes profile depth_left text v rest (rw (e, f) at h)
      ]
    ]

-- What is read as a value is one, with this text, within the limit.
pub value_takes : (profile : Profile) (depth_left : ℕ) → ReadsValues profile depth_left (value_of profile depth_left)
unfolding value_of
value_takes profile zero text v rest h =
    value_by_takes profile 0 (λ b t. Err (Deep t)) text v rest (λ b e k. absurd cc) h
value_takes profile (suc depth_left) text v rest h =
    value_by_takes profile (suc depth_left) (bracket_by profile (value_of profile depth_left)) text v rest
    (λ b e k.
    bracket_takes profile depth_left (value_of profile depth_left) (value_takes profile depth_left) b text v rest e k) h
