-- Keys are read as they are written, and what is written as a key is read again.
--
-- A name is a key and its `=`; a key is a part and further parts after dots. For each of them there are two directions.
-- What is read has the text that was read and is valid (`part_takes`, `key_takes`, `name_takes`): the further parts are
-- read in a loop, so the invariant of the loop is split by what an iteration does (`further_cases`). What is written is
-- read again (`part_again`, `key_reads`, `name_again`): an induction over the further parts (`more_again`), where the
-- byte after a part has to be no byte of a key (`is_key_end`). No key is ever too deep (`key_not_deep`,
-- `name_not_deep`).
--
-- Theorems: `name_takes` and `name_again` for keys with their equals sign; `key_takes` and `key_reads` for keys alone.
use Rattle.std.proofs.Common.{◌≡◌, ℕ, suc, ◌<◌, ◌≤◌, Bool, true, false, not, ◌||◌, ◌==◌, List, [], ◌∷◌, ◌++◌, length}
use Rattle.std.proofs.Common.{drop, Option, Some, None, Ok, Err, refl, sym, ap, ◌∙◌, subst, inl, inr, arith}
use Rattle.std.proofs.Common.{append_assoc, take_at, drop_at, eqb-true, ◌⊎◌}
use Rattle.std.specs.List.{flat_map, AllByRecursion}
use Rattle.std.proofs.lemmas.Bool.Decides.{nat_tests}
use Rattle.std.proofs.lemmas.List.{append-nil, take-append-drop, length-drop}
use Rattle.keep_types.specs.declared.leaf.Profile.{Profile}
use Rattle.keep_types.specs.declared.leaf.Leaf.{Leaf}
use Rattle.keep_types.specs.declared.leaf.Leaf.TheVariants as leaf
use Rattle.keep_token.specs.Abnf.{is_ws, is_bare}
use Rattle.keep_token.specs.Scanning.{first, key_at}
use Rattle.keep_token.proofs.Shared.{tested, key_found, key_again}
use Rattle.keep_syntax.specs.Tree.{Written, Gap, Further, Key, Name, text_of, token, further_leaves, key_leaves}
use Rattle.keep_syntax.specs.Tree.{name_leaves}
use Rattle.keep_syntax.specs.Grammar.{IsSpace, IsKeyPart, IsFurther, IsKey, IsName}
use Rattle.keep_syntax.specs.Reading.{Deep, Read, ◌>>=◌, Iteration, continues, ready, written, space_at, part_of}
use Rattle.keep_syntax.specs.Reading.{part_at, further_at, more_of, key_of, equals_by, name_of}
use Rattle.keep_syntax.proofs.LoopLaws.{bind_ok, bind_err, ok_is, Shortens, loop_on, loop_ready, repeat_holds}
use Rattle.keep_syntax.proofs.LoopLaws.{repeat_deep}
use Rattle.keep_syntax.proofs.SpaceLaws.{text_of-append, is_solid, solid_no_ws, space_takes, space_shortens}
use Rattle.keep_syntax.proofs.SpaceLaws.{space_again, space_class}

-- a text whose first byte is known
pub first_is : (b : ℕ) (text : List ℕ) → 0 < b → (first text == b) ≡ true → text ≡ b ∷ drop 1 text
first_is b [] some e = absurd (omega (arith, eqb-true 0 b e))
first_is b (c ∷ cs) some e = ap (λ (x : ℕ). x ∷ cs) (eqb-true c b e)

-- ---- key parts

-- a byte that begins a key part
abbrev pub is_key_first : ℕ → Bool
is_key_first c = (is_bare c || c == 0x22) || c == 0x27

pub key_first_solid : (c : ℕ) → is_key_first c ≡ true → is_solid c ≡ true
key_first_solid c h = grind (arith, nat_tests)

pub key_first_at : (profile : Profile) (text : List ℕ) (l : Leaf) (n : ℕ) → key_at profile text ≡ Some (l, n)
    → is_key_first (first text) ≡ true
unfolding key_at
key_first_at profile text l n e =
    elim (tested (is_bare (first text))) [
      | inl f ↦ rw f refl
      | inr f ↦ elim (tested (first text == 0x22)) [
        | inl g ↦ rw (f, g) refl
        | inr g ↦ elim (tested (first text == 0x27)) [
          | inl h ↦ rw (f, g, h) refl
          | inr h ↦ absurd (let k = rw (f, g, h) at e in cc)
        ]
      ]
    ]

-- a key part before the text
pub record TookPart (profile : Profile) (text : List ℕ) (w : Written) (rest : List ℕ) : Type 0 where
  pub valid : IsKeyPart profile w
  pub spelled : text ≡ w.text ++ rest
  pub shorter : length rest < length text
  pub begins : is_key_first (first text) ≡ true

pub part_takes : (profile : Profile) (text : List ℕ) (w : Written) (rest : List ℕ) → part_at profile text ≡ Ok (w, rest)
    → TookPart profile text w rest
part_takes profile text w rest h = by (key_at profile text) refl h
  where
    by : (o : Option (Leaf × ℕ)) → key_at profile text ≡ o → part_of text o ≡ Ok (w, rest)
        → TookPart profile text w rest
    by None is e = absurd cc
    by (Some (l, n)) is e =
        let (kind, some, within, belongs) = key_found profile text l n is in
        subst (λ (x : Written × List ℕ). TookPart profile text x.0 x.1)
        (ok_is (written l n text, drop n text) (w, rest) e) (record {
          valid = (kind, belongs);
          spelled = sym (take-append-drop n text);
          shorter = omega (arith, length-drop n text);
          begins = key_first_at profile text l n is;
        })

-- a key part is not empty, and begins so
pub part_begins : (profile : Profile) (w : Written) (rest : List ℕ) → IsKeyPart profile w
    → (0 < length w.text) × (is_key_first (first (w.text ++ rest)) ≡ true)
part_begins profile w rest h =
    let again = key_again profile w.leaf w.text [] h.0 h.1 refl in
    let begins = key_first_at profile (w.text ++ []) w.leaf (length w.text) again in
    let found = key_found profile (w.text ++ []) w.leaf (length w.text) again in
    (found.1, by w.text found.1 begins)
  where
    by : (t : List ℕ) → 0 < length t → is_key_first (first (t ++ [])) ≡ true → is_key_first (first (t ++ rest)) ≡ true
    by [] some k = absurd (omega arith)
    by (c ∷ cs) some k = k

pub part_again : (profile : Profile) (w : Written) (rest : List ℕ) → IsKeyPart profile w → is_bare (first rest) ≡ false
    → part_at profile (w.text ++ rest) ≡ Ok (w, rest)
part_again profile w rest h stop =
    rw (
      key_again profile w.leaf w.text rest h.0 h.1 stop,
      take_at w.text rest (length w.text) refl,
      drop_at w.text rest (length w.text) refl,
    ) refl

part_not_deep : (profile : Profile) (text rest : List ℕ) → part_at profile text ≡ Err (Deep rest) → ⊥
part_not_deep profile text rest h = by (key_at profile text) h
  where
    by : (o : Option (Leaf × ℕ)) → part_of text o ≡ Err (Deep rest) → ⊥
    by None e = absurd cc
    by (Some (l, n)) e = absurd cc

-- ---- texts by parts

pub further_text : (f : Further) (rest : List ℕ)
    → text_of (further_leaves f) ++ rest ≡ text_of f.before ++ (0x2E ∷ (text_of f.after ++ (f.part.text ++ rest)))
further_text f rest =
    let dot = token leaf.Dot (0x2E ∷ []) in
    let p = f.part ∷ [] in
    ap (λ (t : List ℕ). t ++ rest)
    (text_of-append f.before (dot ++ (f.after ++ p))
    ∙ ap (λ (t : List ℕ). text_of f.before ++ (0x2E ∷ t)) (text_of-append f.after p)) ∙ simp (append_assoc, append-nil)

pub key_text : (k : Key) (rest : List ℕ)
    → text_of (key_leaves k) ++ rest ≡ k.first.text ++ (text_of (flat_map further_leaves k.more) ++ rest)
key_text k rest = append_assoc k.first.text (text_of (flat_map further_leaves k.more)) rest

pub name_text : (n : Name) (rest : List ℕ)
    → text_of (name_leaves n) ++ rest ≡ text_of (key_leaves n.key)
    ++ (text_of n.before ++ (0x3D ∷ (text_of n.after ++ rest)))
name_text n rest =
    let equals = token leaf.Equals (0x3D ∷ []) in
    let k = key_leaves n.key in
    ap (λ (t : List ℕ). t ++ rest)
    (text_of-append k (n.before ++ (equals ++ n.after))
    ∙ ap (λ (t : List ℕ). text_of k ++ t) (text_of-append n.before (equals ++ n.after))) ∙ simp append_assoc

more_text : (f : Further) (fs : List Further) (x : List ℕ)
    → text_of (flat_map further_leaves (f ∷ fs)) ++ x ≡ text_of (further_leaves f)
    ++ (text_of (flat_map further_leaves fs) ++ x)
more_text f fs x =
    ap (λ (t : List ℕ). t ++ x) (text_of-append (further_leaves f) (flat_map further_leaves fs))
    ∙ append_assoc (text_of (further_leaves f)) (text_of (flat_map further_leaves fs)) x

-- ---- further parts

pub record TookFurther (profile : Profile) (prefix : List Further) (text : List ℕ) (prefix' : List Further)
    (rest : List ℕ) : Type 0 where
  pub part : Further
  pub valid : IsFurther profile part
  pub grown : prefix' ≡ prefix ++ (part ∷ [])
  pub spelled : text ≡ text_of (further_leaves part) ++ rest
  pub shorter : length rest < length text

abbrev FurtherIteration : Type 0
FurtherIteration = Iteration (List Further) (List Further × Gap)

further_cases : (profile : Profile) (prefix : List Further) (text : List ℕ) (t : FurtherIteration) (rest : List ℕ)
    → further_at profile prefix text ≡ Ok (t, rest)
    → ((prefix' : List Further) × (t ≡ continues prefix') × TookFurther profile prefix text prefix' rest)
    ⊎ ((t ≡ ready (prefix, (space_at text).0)) × (rest ≡ (space_at text).1))
unfolding further_at
further_cases profile prefix text t rest h =
    let b = space_at text in
    let sb = space_takes text in
    elim (tested (first b.1 == 0x2E)) [
      | inl e ↦
          let c = space_at (drop 1 b.1) in
          let sc = space_takes (drop 1 b.1) in
          let dot : b.1 ≡ 0x2E ∷ drop 1 b.1 = first_is 0x2E b.1 (omega arith) e in
          let made : Written → Further = λ p. record { before = b.0; after = c.0; part = p } in
          let go : Written × List ℕ → Read FurtherIteration = λ p. Ok (continues (prefix ++ (made p.0 ∷ [])), p.1) in
          let (p, e1, e2) = bind_ok (part_at profile c.1) go (t, rest) (rw e at h) in
          let tp = part_takes profile c.1 p.0 p.1 e1 in
          let same = ok_is (continues (prefix ++ (made p.0 ∷ [])), p.1) (t, rest) e2 in
          let r : p.1 ≡ rest = ap (λ (x : FurtherIteration × List ℕ). x.1) same in
          inl (
            prefix ++ (made p.0 ∷ []),
            sym (ap (λ (x : FurtherIteration × List ℕ). x.0) same),
            record {
              part = made p.0;
              valid = record { before = sb.valid; after = sc.valid; part = tp.valid };
              grown = refl;
              spelled =
                  sb.spelled
                  ∙ ap (λ (x : List ℕ). text_of b.0 ++ x)
                  (dot ∙ ap (λ (x : List ℕ). 0x2E ∷ x)
                  (sc.spelled
                  ∙ ap (λ (x : List ℕ). text_of c.0 ++ x) (tp.spelled ∙ ap (λ (x : List ℕ). p.0.text ++ x) r)))
                  ∙ sym (further_text (made p.0) rest);
              shorter =
                  omega (
                    arith,
                    tp.shorter,
                    ap length r,
                    space_shortens text,
                    space_shortens (drop 1 b.1),
                    ap length dot,
                  );
            },
          )
      | inr e ↦
          let same = ok_is (ready (prefix, b.0), b.1) (t, rest) (rw e at h) in
          inr (
            sym (ap (λ (x : FurtherIteration × List ℕ). x.0) same),
            sym (ap (λ (x : FurtherIteration × List ℕ). x.1) same),
          )
    ]

abbrev iteration_on : List Further → FurtherIteration
iteration_on s = continues s

abbrev iteration_ready : List Further × Gap → FurtherIteration
iteration_ready a = ready a

pub further_on : (profile : Profile) (prefix : List Further) (text : List ℕ) (prefix' : List Further) (rest : List ℕ)
    → further_at profile prefix text ≡ Ok (continues prefix', rest) → TookFurther profile prefix text prefix' rest
further_on profile prefix text prefix' rest h =
    elim (further_cases profile prefix text (continues prefix') rest h) [
      | inl x ↦ let e : iteration_on prefix' ≡ iteration_on x.0 =
          x.1 in let same : prefix' ≡ x.0 =
          cc in subst (λ (s : List Further). TookFurther profile prefix text s rest) (sym same) x.2
      | inr x ↦ absurd (let e : iteration_on prefix' ≡ iteration_ready (prefix, (space_at text).0) = x.0 in cc)
    ]

pub further_ready : (profile : Profile) (prefix : List Further) (text : List ℕ) (a : List Further × Gap) (rest : List ℕ)
    → further_at profile prefix text ≡ Ok (ready a, rest)
    → (a ≡ (prefix, (space_at text).0)) × (rest ≡ (space_at text).1)
further_ready profile prefix text a rest h =
    elim (further_cases profile prefix text (ready a) rest h) [
      | inl x ↦ absurd (let e : iteration_ready a ≡ iteration_on x.0 = x.1 in cc)
      | inr x ↦ let e : iteration_ready a ≡ iteration_ready (prefix, (space_at text).0) =
          x.0 in let same : a ≡ (prefix, (space_at text).0) = cc in (same, x.1)
    ]

pub further_shortens : (profile : Profile) → Shortens (further_at profile)
further_shortens profile s text s' rest h = (further_on profile s text s' rest h).shorter

-- the further parts and the gap after the key
pub record TookMore (profile : Profile) (prefix : List Further) (text : List ℕ) (a : List Further × Gap)
    (rest : List ℕ) : Type 0 where
  pub more : List Further
  pub valid : AllByRecursion (IsFurther profile) more
  pub grown : a.0 ≡ prefix ++ more
  pub gap : IsSpace a.1
  pub spelled : text ≡ text_of (flat_map further_leaves more) ++ (text_of a.1 ++ rest)
  pub shorter : length rest ≤ length text

pub more_takes : (profile : Profile) (prefix : List Further) (text : List ℕ) (a : List Further × Gap) (rest : List ℕ)
    → more_of profile prefix text ≡ Ok (a, rest) → TookMore profile prefix text a rest
more_takes profile prefix text a rest h =
    repeat_holds (further_at profile) (TookMore profile) last on (suc (length text)) prefix text a rest h
  where
    last : (s : List Further) (text : List ℕ) (a : List Further × Gap) (rest : List ℕ)
        → further_at profile s text ≡ Ok (ready a, rest) → TookMore profile s text a rest
    last s text a rest e =
        let f = further_ready profile s text a rest e in
        let sp = space_takes text in
        subst (λ (x : (List Further × Gap) × List ℕ). TookMore profile s text x.0 x.1)
        (ap (λ (x : List Further × Gap). (x, (space_at text).1)) (sym f.0) ∙ ap (λ (x : List ℕ). (a, x)) (sym f.1))
        (record {
          more = [];
          valid = tt;
          grown = sym (append-nil s);
          gap = sp.valid;
          spelled = sp.spelled;
          shorter = space_shortens text;
        })

    on : (s : List Further) (text : List ℕ) (s' : List Further) (text' : List ℕ) (a : List Further × Gap)
        (rest : List ℕ) → further_at profile s text ≡ Ok (continues s', text') → TookMore profile s' text' a rest
        → TookMore profile s text a rest
    on s text s' text' a rest e t =
        let f = further_on profile s text s' text' e in
        record {
          more = f.part ∷ t.more;
          valid = (f.valid, t.valid);
          grown = t.grown ∙ ap (λ (x : List Further). x ++ t.more) f.grown ∙ append_assoc s (f.part ∷ []) t.more;
          gap = t.gap;
          spelled =
              f.spelled ∙ ap (λ (x : List ℕ). text_of (further_leaves f.part) ++ x) t.spelled
              ∙ sym (more_text f.part t.more (text_of a.1 ++ rest));
          shorter = omega (arith, f.shorter, t.shorter);
        }

-- a byte after a key and its gap
abbrev pub is_key_end : ℕ → Bool
is_key_end c = not ((is_ws c || c == 0x2E) || is_bare c)

pub more_class : (p : ℕ → Bool) (profile : Profile) (fs : List Further) (g : Gap) (rest : List ℕ)
    → ((c : ℕ) → is_ws c ≡ true → p c ≡ false) → p 0x2E ≡ false → AllByRecursion (IsFurther profile) fs → IsSpace g
    → p (first rest) ≡ false
    → p (first (text_of (flat_map further_leaves fs) ++ (text_of g ++ rest))) ≡ false
more_class p profile [] g rest ws dot h space stop = space_class p g rest space ws stop
more_class p profile (f ∷ fs) g rest ws dot h space stop =
    let x = text_of (flat_map further_leaves fs) ++ (text_of g ++ rest) in
    rw (more_text f fs (text_of g ++ rest), further_text f x)
    (space_class p f.before (0x2E ∷ (text_of f.after ++ (f.part.text ++ x))) h.0.before ws dot)

pub further_again : (profile : Profile) (prefix : List Further) (f : Further) (rest : List ℕ) → IsFurther profile f
    → is_bare (first rest) ≡ false
    → further_at profile prefix (text_of (further_leaves f) ++ rest) ≡ Ok (continues (prefix ++ (f ∷ [])), rest)
unfolding further_at
further_again profile prefix f rest h stop =
    let x = f.part.text ++ rest in
    let no_ws : is_ws (first x) ≡ false =
    solid_no_ws (first x) (key_first_solid (first x) (part_begins profile f.part rest h.part).1) in
    let one : space_at (text_of f.before ++ (0x2E ∷ (text_of f.after ++ x)))
    ≡ (f.before, 0x2E ∷ (text_of f.after ++ x)) = space_again f.before (0x2E ∷ (text_of f.after ++ x)) h.before refl in
    let two : space_at (text_of f.after ++ x) ≡ (f.after, x) = space_again f.after x h.after no_ws in
    let three : part_at profile x ≡ Ok (f.part, rest) = part_again profile f.part rest h.part stop in
    rw (further_text f rest, one, two, three) refl

ws_no_bare : (c : ℕ) → is_ws c ≡ true → is_bare c ≡ false
ws_no_bare c h = grind (arith, nat_tests)

key_end_facts : (c : ℕ) → is_key_end c ≡ true → (is_ws c ≡ false) × ((c == 0x2E) ≡ false) × (is_bare c ≡ false)
key_end_facts c h = (grind (arith, nat_tests), grind (arith, nat_tests), grind (arith, nat_tests))

pub more_again : (profile : Profile) (fs prefix : List Further) (g : Gap) (rest : List ℕ)
    → AllByRecursion (IsFurther profile) fs → IsSpace g → is_key_end (first rest) ≡ true
    → more_of profile prefix (text_of (flat_map further_leaves fs) ++ (text_of g ++ rest))
    ≡ Ok ((prefix ++ fs, g), rest)
unfolding further_at
more_again profile [] prefix g rest h space stop =
    loop_ready (further_at profile) prefix (text_of g ++ rest) (prefix ++ [], g) rest
    (iteration ∙ ap (λ (x : List Further). Ok (ready (x, g), rest)) (sym (append-nil prefix)))
  where
    iteration : further_at profile prefix (text_of g ++ rest) ≡ Ok (ready (prefix, g), rest)
    iteration = let (a, b, c) = key_end_facts (first rest) stop in rw (space_again g rest space a, b) refl
more_again profile (f ∷ fs) prefix g rest h space stop =
    let x = text_of (flat_map further_leaves fs) ++ (text_of g ++ rest) in
    let no_bare : is_bare (first x) ≡ false =
    more_class is_bare profile fs g rest ws_no_bare refl h.1 space (key_end_facts (first rest) stop).2 in
    ap (more_of profile prefix) (more_text f fs (text_of g ++ rest))
    ∙ loop_on (further_at profile) (further_shortens profile) prefix (text_of (further_leaves f) ++ x)
    (prefix ++ (f ∷ [])) x (further_again profile prefix f x h.0 no_bare)
    ∙ more_again profile fs (prefix ++ (f ∷ [])) g rest h.1 space stop
    ∙ ap (λ (y : List Further). Ok ((y, g), rest)) (append_assoc prefix (f ∷ []) fs)

more_not_deep : (profile : Profile) (prefix : List Further) (text rest : List ℕ)
    → more_of profile prefix text ≡ Err (Deep rest) → ⊥
unfolding further_at
more_not_deep profile prefix text rest h =
    repeat_deep (further_at profile) (λ s t r. ⊥) iteration (λ s t s' t' r e f. f) (suc (length text)) prefix text rest
    h
  where
    iteration : (s : List Further) (text rest : List ℕ) → further_at profile s text ≡ Err (Deep rest) → ⊥
    iteration s text rest e =
        let b = space_at text in
        let c = space_at (drop 1 b.1) in
        let go : Written × List ℕ → Read FurtherIteration =
        λ p. Ok (continues (s ++ (record { before = b.0; after = c.0; part = p.0 } ∷ [])), p.1) in
        elim (tested (first b.1 == 0x2E)) [
          | inl f ↦
              elim (bind_err (part_at profile c.1) go (Deep rest) (rw f at e)) [
                | inl k ↦
                    part_not_deep profile c.1 rest k
                | inr k ↦ absurd (let bad = k.2 in cc)
              ]
          | inr f ↦ absurd (let k = rw f at e in cc)
        ]

-- ---- keys

pub record TookKey (profile : Profile) (text : List ℕ) (k : Key × Gap) (rest : List ℕ) : Type 0 where
  pub valid : IsKey profile k.0
  pub gap : IsSpace k.1
  pub spelled : text ≡ text_of (key_leaves k.0) ++ (text_of k.1 ++ rest)
  pub shorter : length rest < length text
  pub begins : is_key_first (first text) ≡ true

pub key_takes : (profile : Profile) (text : List ℕ) (k : Key × Gap) (rest : List ℕ) → key_of profile text ≡ Ok (k, rest)
    → TookKey profile text k rest
unfolding key_of
key_takes profile text k rest h =
    let go : Written → (List Further × Gap) × List ℕ → Read (Key × Gap) =
    λ p m. Ok ((record { first = p; more = m.0.0 }, m.0.1), m.1) in
    let (p, e1, e2) = bind_ok (part_at profile text) (λ p. more_of profile [] p.1 >>= λ m. go p.0 m) (k, rest) h in
    let (m, e3, e4) = bind_ok (more_of profile [] p.1) (go p.0) (k, rest) e2 in
    let tp = part_takes profile text p.0 p.1 e1 in
    let tm = more_takes profile [] p.1 m.0 m.1 e3 in
    let made : (Key × Gap) × List ℕ = ((record { first = p.0; more = m.0.0 }, m.0.1), m.1) in
    let more_is : tm.more ≡ m.0.0 = sym tm.grown in
    subst (λ (x : (Key × Gap) × List ℕ). TookKey profile text x.0 x.1) (ok_is made (k, rest) e4) (record {
      valid = record {
        first = tp.valid;
        more = subst (λ (fs : List Further). AllByRecursion (IsFurther profile) fs) more_is tm.valid;
      };
      gap = tm.gap;
      spelled = spelled_is p.0 tm.more m.0.0 (text_of m.0.1 ++ m.1) p.1 tp.spelled tm.spelled more_is;
      shorter = omega (arith, tp.shorter, tm.shorter);
      begins = tp.begins;
    })
  where
    spelled_is : (w : Written) (fs gs : List Further) (x y : List ℕ) → text ≡ w.text ++ y
        → y ≡ text_of (flat_map further_leaves fs) ++ x → fs ≡ gs
        → text ≡ text_of (key_leaves (record { first = w; more = gs })) ++ x
    spelled_is w fs gs x y e1 e2 same =
        e1 ∙ ap (λ (t : List ℕ). w.text ++ t)
        (e2 ∙ ap (λ (fs : List Further). text_of (flat_map further_leaves fs) ++ x) same)
        ∙ sym (key_text (record { first = w; more = gs }) x)

pub key_begins : (profile : Profile) (k : Key) (rest : List ℕ) → IsKey profile k
    → is_key_first (first (text_of (key_leaves k) ++ rest)) ≡ true
key_begins profile k rest h =
    rw (key_text k rest) (part_begins profile k.first (text_of (flat_map further_leaves k.more) ++ rest) h.first).1

pub key_reads : (profile : Profile) (k : Key) (g : Gap) (rest : List ℕ) → IsKey profile k → IsSpace g
    → is_key_end (first rest) ≡ true
    → key_of profile (text_of (key_leaves k) ++ (text_of g ++ rest)) ≡ Ok ((k, g), rest)
unfolding key_of
key_reads profile k g rest h space stop =
    let x = text_of (flat_map further_leaves k.more) ++ (text_of g ++ rest) in
    let no_bare : is_bare (first x) ≡ false =
    more_class is_bare profile k.more g rest ws_no_bare refl h.more space (key_end_facts (first rest) stop).2 in
    let one : part_at profile (k.first.text ++ x) ≡ Ok (k.first, x) = part_again profile k.first x h.first no_bare in
    let two : more_of profile [] x ≡ Ok ((k.more, g), rest) = more_again profile k.more [] g rest h.more space stop in
    rw (key_text k (text_of g ++ rest), one, two) refl

pub key_not_deep : (profile : Profile) (text rest : List ℕ) → key_of profile text ≡ Err (Deep rest) → ⊥
unfolding key_of
key_not_deep profile text rest h =
    let go : Written → (List Further × Gap) × List ℕ → Read (Key × Gap) =
    λ p m. Ok ((record { first = p; more = m.0.0 }, m.0.1), m.1) in
    elim (bind_err (part_at profile text) (λ p. more_of profile [] p.1 >>= λ m. go p.0 m) (Deep rest) h) [
      | inl k ↦ part_not_deep profile text rest k
      | inr x ↦
          elim (bind_err (more_of profile [] x.0.1) (go x.0.0) (Deep rest) x.2) [
            | inl k ↦
                more_not_deep profile [] x.0.1 rest k
            | inr y ↦ absurd (let bad = y.2 in cc)
          ]
    ]

-- ---- names

pub record TookName (profile : Profile) (text : List ℕ) (n : Name) (rest : List ℕ) : Type 0 where
  pub valid : IsName profile n
  pub spelled : text ≡ text_of (name_leaves n) ++ rest
  pub shorter : length rest < length text
  pub begins : is_key_first (first text) ≡ true

pub name_takes : (profile : Profile) (text : List ℕ) (n : Name) (rest : List ℕ) → name_of profile text ≡ Ok (n, rest)
    → TookName profile text n rest
unfolding name_of
name_takes profile text n rest h =
    let (k, e1, e2) = bind_ok (key_of profile text) (λ k. equals_by k.0 k.1) (n, rest) h in
    let tk = key_takes profile text k.0 k.1 e1 in
    elim (tested (first k.1 == 0x3D)) [
      | inr e ↦ absurd (let bad = rw e at e2 in cc)
      | inl e ↦
          let c = space_at (drop 1 k.1) in
          let sc = space_takes (drop 1 k.1) in
          let equals : k.1 ≡ 0x3D ∷ drop 1 k.1 = first_is 0x3D k.1 (omega arith) e in
          let made : Name × List ℕ = (record { key = k.0.0; before = k.0.1; after = c.0 }, c.1) in
          subst (λ (x : Name × List ℕ). TookName profile text x.0 x.1) (ok_is made (n, rest) (rw e at e2)) (record {
            valid = record { key = tk.valid; before = tk.gap; after = sc.valid };
            spelled =
                tk.spelled
                ∙ ap (λ (x : List ℕ). text_of (key_leaves k.0.0) ++ (text_of k.0.1 ++ x))
                (equals ∙ ap (λ (x : List ℕ). 0x3D ∷ x) sc.spelled) ∙ sym (name_text made.0 c.1);
            shorter = omega (arith, tk.shorter, space_shortens (drop 1 k.1), ap length equals);
            begins = tk.begins;
          })
    ]

pub name_begins : (profile : Profile) (n : Name) (rest : List ℕ) → IsName profile n
    → is_key_first (first (text_of (name_leaves n) ++ rest)) ≡ true
name_begins profile n rest h =
    rw (name_text n rest) (key_begins profile n.key (text_of n.before ++ (0x3D ∷ (text_of n.after ++ rest))) h.key)

pub name_again : (profile : Profile) (n : Name) (rest : List ℕ) → IsName profile n → is_ws (first rest) ≡ false
    → name_of profile (text_of (name_leaves n) ++ rest) ≡ Ok (n, rest)
unfolding name_of
name_again profile n rest h stop =
    let x = 0x3D ∷ (text_of n.after ++ rest) in
    let one : key_of profile (text_of (key_leaves n.key) ++ (text_of n.before ++ x)) ≡ Ok ((n.key, n.before), x) =
    key_reads profile n.key n.before x h.key h.before refl in
    let two : space_at (text_of n.after ++ rest) ≡ (n.after, rest) = space_again n.after rest h.after stop in
    rw (name_text n rest, one, two) refl

pub name_not_deep : (profile : Profile) (text rest : List ℕ) → name_of profile text ≡ Err (Deep rest) → ⊥
unfolding name_of
name_not_deep profile text rest h =
    elim (bind_err (key_of profile text) (λ k. equals_by k.0 k.1) (Deep rest) h) [
      | inl k ↦ key_not_deep profile text rest k
      | inr x ↦
          elim (tested (first x.0.1 == 0x3D)) [
            | inl e ↦ absurd (let bad = rw e at x.2 in cc)
            | inr e ↦
                absurd (let bad = rw e at x.2 in cc)
          ]
    ]
