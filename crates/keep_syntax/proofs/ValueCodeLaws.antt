-- What the code stores of scalars, brackets, and what follows a value.
--
-- The code and the function on lists look at the same byte, so for each branch of the code there is a lemma that gives
-- the branch of the function: by the first byte of a value (`value_array`, `value_inline`, `value_scalar`), and by the
-- comma after it (`after_comma`). What is stored is what the parts store, one after the other (`scalar_is`,
-- `after_comma`). The hard one is a bracket (`bracket_is`): its value is pushed before its entries, and its end is set
-- after them, so the value with that number has to be still there (`bracket_number`).
--
-- Theorems: `scalar_is`, `bracket_is` and `after_comma`: what is stored is what the definition has.
use Rattle.std.proofs.Common.{◌≡◌, ℕ, zero, suc, ◌+◌, ◌<◌, false, not, ◌&&◌, ◌==◌, List, [], ◌∷◌, ◌++◌, length, get_or}
use Rattle.std.proofs.Common.{drop, Option, Some, None, Result, Ok, Err, refl, sym, ap, ◌∙◌, subst, arith}
use Rattle.std.proofs.Common.{IsCharBoundary}
use Rattle.std.proofs.lemmas.List.{append-nil, length-append}
use Rattle.keep_types.specs.declared.leaf.Leaf.{Leaf}
use Rattle.keep_types.specs.declared.leaf.Leaf.TheVariants as leaf
use Rattle.keep_types.specs.declared.leaf.Profile.{Profile}
use Rattle.keep_token.specs.Scanning.{scalar_at, moved}
use Rattle.keep_syntax.specs.declared.fault.ReadFault.{ReadFault}
use Rattle.keep_types.specs.declared.syntax.Start.{Start}
use Rattle.keep_types.specs.declared.syntax.Owner.{Owner}
use Rattle.keep_syntax.specs.declared.info.Brackets.{Brackets}
use Rattle.keep_syntax.specs.declared.info.Brackets.TheVariants as brackets
use Rattle.keep_types.specs.declared.syntax.ValueInfo.{ValueInfo}
use Rattle.keep_syntax.specs.Tree.{Gap, Name, scalar, Entries, none, Value, token, entries_leaves, value_leaves}
use Rattle.keep_syntax.specs.Numbered.{width, entries_parts, entries_values, nested_of, nested_start, value_end}
use Rattle.keep_syntax.specs.Numbered.{leaf_of}
use Rattle.keep_syntax.specs.Numbered as numbered
use Rattle.keep_syntax.specs.Reading.{Read, written, scalar_of, value_by, value_of, entries_by, body_in, open_byte}
use Rattle.keep_syntax.specs.Reading.{close_byte, gap_in, is_free, named_in, name_of, after_by, comma_by}
use Rattle.keep_syntax_store.specs.Flat.{Flat, with_token, with_value, begun, with_end, with_comma, ChangesValue}
use Rattle.keep_syntax.specs.Growth.{Taken, only, both, Grows, PartRead, Fails, PunctuationIs, GapRead, NameRead}
use Rattle.keep_syntax.specs.Growth.{NamedRead, ScalarRead, BracketRead, bracket_of, open_leaf, close_leaf, owner_in}
use Rattle.keep_syntax.specs.Growth.{value_taken, entries_taken, AfterIs, EntriesAre}
use Rattle.keep_syntax.proofs.LoopLaws.{done, ok_is}
use Rattle.keep_syntax.proofs.GrowthLaws.{same_taken, grows_nothing, grows_then, grows_as, grows_value, grows_changed}
use Rattle.keep_syntax.proofs.GrowthLaws.{grown_values, grown_keys, one_value}
use Rattle.keep_syntax.proofs.NumberLaws.{same_start}
use Rattle.keep_syntax.proofs.GapCodeLaws.{moved_some, first-drop, after_leaf, after_sign, leaf_end, leaf_grows}
use Rattle.keep_syntax.proofs.GapCodeLaws.{sign_grows, fails_through}

-- what reading stored, by an equal result of reading
pub same_read : {A : Type 0} (text : List ℕ) (at least : ℕ) (taken : A → Taken) (old new : Flat)
    (x : Result ℕ ReadFault) (r s : Read A) → r ≡ s → PartRead text at least r taken old new x
    → PartRead text at least s taken old new x
same_read {A} text at least taken old new x r s e h =
    subst (λ (y : Read A). PartRead text at least y taken old new x) e h

-- ---- a scalar

pub scalar_is : (profile : Profile) (text : List ℕ) (at keys : ℕ) (p : Start) (old mid new : Flat) (l : Leaf) (end : ℕ)
    → IsCharBoundary text at → IsCharBoundary text end → at < end
    → moved at (scalar_at profile (drop at text)) ≡ Some (l, end) → mid ≡ with_token l at old
    → new ≡ with_value (begun l at end keys p) mid → ScalarRead profile text at keys p old new (Ok end)
scalar_is profile text at keys p old mid new l end bound bound' lt e e1 e2 =
    let m = moved_some at (scalar_at profile (drop at text)) l end (sym e) in
    let n = m.0 in
    let w = written l n (drop at text) in
    let v : Value = record { body = scalar w; nested = none } in
    let ends : end ≡ at + length w.text = leaf_end text at n end m.2 bound'.0 in
    let there : end ≡ value_end at (scalar w) none = omega (arith, length-append w.text []) in
    record {
      part = v;
      bound = bound';
      forward = omega arith;
      is_read = ap (scalar_of (drop at text)) m.1 ∙ ap (λ (t : List ℕ). done (v, t)) (after_leaf text at n end m.2);
      grows = grows_as (value_taken p at keys v)
          (ap (λ (x : ℕ). let t : Taken =
          record { leaves = w ∷ []; statements = []; keys = []; values = begun l at x keys p ∷ [] } in t) there)
          (grows_then (leaf_grows text at n end l old mid m.2 bound'.0 bound e1)
          (grows_value text (begun l at end keys p) mid new end e2));
    }

-- ---- which value

value_of-bracket : (profile : Profile) (depth_left : ℕ) (text : List ℕ)
    → value_of profile depth_left text ≡ value_by profile (bracket_of profile depth_left) text
unfolding value_of
value_of-bracket profile zero text = refl
value_of-bracket profile (suc depth_left) text = refl

pub value_array : (profile : Profile) (depth_left : ℕ) (text : List ℕ) (at : ℕ) → get_or text at 0 ≡ 0x5B
    → bracket_of profile depth_left brackets.Array (drop at text) ≡ value_of profile depth_left (drop at text)
value_array profile depth_left text at e =
    sym (value_of-bracket profile depth_left (drop at text) ∙ rw (first-drop text at, e) refl)

pub value_inline : (profile : Profile) (depth_left : ℕ) (text : List ℕ) (at : ℕ) → get_or text at 0 ≡ 0x7B
    → bracket_of profile depth_left brackets.Inline (drop at text) ≡ value_of profile depth_left (drop at text)
value_inline profile depth_left text at e =
    sym (value_of-bracket profile depth_left (drop at text) ∙ rw (first-drop text at, e) refl)

pub value_scalar : (profile : Profile) (depth_left : ℕ) (text : List ℕ) (at : ℕ) → (get_or text at 0 == 0x5B) ≡ false
    → (get_or text at 0 == 0x7B) ≡ false
    → scalar_of (drop at text) (scalar_at profile (drop at text)) ≡ value_of profile depth_left (drop at text)
value_scalar profile depth_left text at e1 e2 =
    sym (value_of-bracket profile depth_left (drop at text) ∙ rw (first-drop text at, e1, e2) refl)

-- ---- a name, where there is one

pub named_array : (profile : Profile) (text : List ℕ) (at : ℕ) (f : Flat) → IsCharBoundary text at
    → NamedRead profile brackets.Array text at f f (Ok at)
named_array profile text at f bound =
    record { part = None; bound = bound; forward = omega arith; is_read = refl; grows = grows_nothing text f at }

pub named_inline : (profile : Profile) (text : List ℕ) (at : ℕ) (old new : Flat) (r : Result ℕ ReadFault)
    → NameRead profile text at old new r → NamedRead profile brackets.Inline text at old new r
named_inline profile text at old new (Err e) h =
    fails_through text e (name_of profile (drop at text)) (named_in profile brackets.Inline (drop at text))
    (λ f k. rw k refl) h
named_inline profile text at old new (Ok end) h =
    record {
      part = Some h.part;
      bound = h.bound;
      forward = omega (arith, h.forward);
      is_read = rw h.is_read refl;
      grows = h.grows;
    }

-- ---- what follows a value

-- the gap is read
gap_is : (profile : Profile) (b : Brackets) (text : List ℕ) (at end : ℕ) (old new : Flat)
    → (g : GapRead profile b text at old new (Ok end)) → gap_in profile b (drop at text) ≡ (g.part, drop end text)
gap_is profile b text at end old new g = ok_is (gap_in profile b (drop at text)) (g.part, drop end text) g.is_read

-- after the comma
gap_after_comma : (profile : Profile) (b : Brackets) (text : List ℕ) (at end after next : ℕ) (old f1 f3 new : Flat)
    → (g : GapRead profile b text at old f1 (Ok end)) → get_or text end 0 ≡ 0x2C → after ≡ end + 1
    → (h : GapRead profile b text after f3 new (Ok next))
    → (name : Option Name) (v : Value)
    → after_by profile b name v (gap_in profile b (drop at text))
    ≡ comma_by profile b name v g.part (h.part, drop next text)
gap_after_comma profile b text at end after next old f1 f3 new g comma e h name v =
    let s : gap_in profile b (drop 1 (drop end text)) ≡ (h.part, drop next text) =
    ap (gap_in profile b) (after_sign text end after e) ∙ gap_is profile b text after next f3 new h in
    rw (gap_is profile b text at end old f1 g, first-drop text end, comma, s) refl

pub after_comma : (profile : Profile) (b : Brackets) (text : List ℕ) (at number end after next : ℕ)
    (old f1 f2 f3 new : Flat) → GapRead profile b text at old f1 (Ok end) → get_or text end 0 ≡ 0x2C
    → PunctuationIs text end 1 leaf.Comma f1 f2 after
    → ChangesValue (with_comma end) number f2 f3 → GapRead profile b text after f3 new (Ok next)
    → (not (is_free profile b) && (get_or text next 0 == close_byte b)) ≡ false
    → AfterIs profile b text at number old new next (Some end)
after_comma profile b text at number end after next old f1 f2 f3 new g comma sg change h may =
    let there : end ≡ at + width g.part = g.grows.place in
    let after_is : after ≡ at + width g.part + 1 = omega (arith, sg.end_is) in
    record {
      after = g.part;
      comma_gap = Some h.part;
      bound = h.bound;
      forward = omega (arith, g.forward, h.forward, sg.end_is);
      comma_is = ap (λ (n : ℕ). Some n) there;
      closed = λ e. absurd cc;
      is_read =
          λ name v. gap_after_comma profile b text at end after next old f1 f3 new g comma sg.end_is h name v
          ∙ rw (first-drop text next, may) refl;
      stored = (
        f2,
        f3,
        subst (λ (n : ℕ). Grows text old f2 at n (only (g.part ++ token leaf.Comma (0x2C ∷ [])))) after_is
            (grows_then g.grows (sign_grows text (0x2C ∷ []) end 1 leaf.Comma f1 f2 after refl sg)),
        subst (λ (n : ℕ). ChangesValue (with_comma n) number f2 f3) there change,
        subst (λ (n : ℕ). Grows text f3 new n next (only h.part)) after_is h.grows,
      );
    }

-- the value is there to get its comma
pub after_number : (profile : Profile) (b : Brackets) (text : List ℕ) (at number end after : ℕ) (old f1 f2 : Flat)
    → GapRead profile b text at old f1 (Ok end) → PunctuationIs text end 1 leaf.Comma f1 f2 after
    → number < length old.values → number < length f2.values
after_number profile b text at number end after old f1 f2 g sg lt =
    omega (
      arith,
      grown_values (only g.part) g.grows,
      grown_values (only (token leaf.Comma (0x2C ∷ [])))
          (sign_grows text (0x2C ∷ []) end 1 leaf.Comma f1 f2 after refl sg),
    )

-- ---- brackets

bracket_leaves : (b : Brackets) (g : Gap) (es : Entries)
    → token (open_leaf b) (open_byte b ∷ []) ++ (g ++ (entries_leaves es ++ token (close_leaf b) (close_byte b ∷ [])))
    ≡ value_leaves (record { body = body_in b g; nested = es })
bracket_leaves brackets.Array g es = refl
bracket_leaves brackets.Inline g es = refl

bracket_start : (b : Brackets) (at : ℕ) (g : Gap) → nested_start at (body_in b g) ≡ at + 1 + width g
bracket_start brackets.Array at g = omega arith
bracket_start brackets.Inline at g = omega arith

bracket_leaf : (b : Brackets) (g : Gap) → open_leaf b ≡ leaf_of (body_in b g)
bracket_leaf brackets.Array g = refl
bracket_leaf brackets.Inline g = refl

bracket_owner : (b : Brackets) (g : Gap) (number : ℕ) → owner_in b number ≡ numbered.owner_in (body_in b g) number
bracket_owner brackets.Array g number = refl
bracket_owner brackets.Inline g number = refl

bracket_end : (b : Brackets) (at : ℕ) (g : Gap) (es : Entries)
    → value_end at (body_in b g) es ≡ at + 1 + width g + width (entries_leaves es) + 1
bracket_end brackets.Array at g es = omega arith
bracket_end brackets.Inline at g es = omega arith

-- reading after the opening
opens_at : (profile : Profile) (b : Brackets) (text : List ℕ) (at open' first' : ℕ) (f2 f3 : Flat) → open' ≡ at + 1
    → (g : GapRead profile b text open' f2 f3 (Ok first'))
    → gap_in profile b (drop 1 (drop at text)) ≡ (g.part, drop first' text)
opens_at profile b text at open' first' f2 f3 e g =
    ap (gap_in profile b) (after_sign text at open' e) ∙ gap_is profile b text open' first' f2 f3 g

pub bracket_fails : (profile : Profile) (b : Brackets) (text : List ℕ) (at depth_left open' first' : ℕ) (f2 f3 : Flat)
    (e : ReadFault) → open' ≡ at + 1 → GapRead profile b text open' f2 f3 (Ok first')
    → Fails text e (entries_by profile b (value_of profile depth_left) none (drop first' text))
    → Fails text e (bracket_of profile (suc depth_left) b (drop at text))
bracket_fails profile b text at depth_left open' first' f2 f3 e o g k =
    fails_through text e (entries_by profile b (value_of profile depth_left) none (drop first' text))
    (bracket_of profile (suc depth_left) b (drop at text))
    (λ f h. rw (opens_at profile b text at open' first' f2 f3 o g, h) refl) k

pub bracket_number : (text : List ℕ) (b : Brackets) (profile : Profile) (depth_left at keys open' first' close end : ℕ)
    (p q : Start) (old f1 f2 f3 f4 f5 : Flat) → PunctuationIs text at 1 (open_leaf b) old f1 open'
    → f2 ≡ with_value (begun (open_leaf b) at at keys p) f1
    → GapRead profile b text open' f2 f3 (Ok first') → EntriesAre b profile depth_left text q f3 f4 close
    → PunctuationIs text close 1 (close_leaf b) f4 f5 end → length old.values < length f5.values
bracket_number text b profile depth_left at keys open' first' close end p q old f1 f2 f3 f4 f5 sg e g en sg2 =
    let v = begun (open_leaf b) at at keys p in
    omega (
      arith,
      grown_values (only (token (open_leaf b) (0 ∷ [])))
          (sign_grows text (0 ∷ []) at 1 (open_leaf b) old f1 open' refl sg),
      grown_values (one_value v) (grows_value text v f1 f2 open' e),
      grown_values (only g.part) g.grows,
      grown_values (entries_taken q en.read.part) en.read.grows,
      grown_values (only (token (close_leaf b) (0 ∷ [])))
          (sign_grows text (0 ∷ []) close 1 (close_leaf b) f4 f5 end refl sg2),
    )

pub bracket_is : (text : List ℕ) (b : Brackets) (profile : Profile)
    (depth_left at keys open' first' close end number nv np depth : ℕ) (o : Owner) (p : Start)
    (old f1 f2 f3 f4 f5 new : Flat)
    → PunctuationIs text at 1 (open_leaf b) old f1 open' → f2 ≡ with_value (begun (open_leaf b) at at keys p) f1
    → GapRead profile b text open' f2 f3 (Ok first')
    → nv ≡ length f3.values → np ≡ length f3.keys → o ≡ owner_in b number → depth ≡ suc p.depth
    → number ≡ length old.values → p.values ≡ length old.values → p.parts + keys ≡ length old.keys
    → EntriesAre b profile depth_left text
    (record { at = first'; values = nv; parts = np; owner = o; depth = depth; comma = None }) f3 f4 close
    → PunctuationIs text close 1 (close_leaf b) f4 f5 end → ChangesValue (with_end end) number f5 new
    → BracketRead b profile (suc depth_left) text at keys p old new (Ok end)
bracket_is text b profile depth_left at keys open' first' close end number nv np depth o p old f1 f2 f3 f4 f5 new sg e g
    i1 i2 i3 i4 n1 n2 n3 en sg2 change =
    let gap = g.part in
    let es = en.read.part in
    let q : Start = record { at = first'; values = nv; parts = np; owner = o; depth = depth; comma = None } in
    let v : Value = record { body = body_in b gap; nested = es } in
    let begin = begun (open_leaf b) at at keys p in
    let opened = sign_grows text (open_byte b ∷ []) at 1 (open_leaf b) old f1 open' refl sg in
    let stated = grows_value text begin f1 f2 open' e in
    let closed = sign_grows text (close_byte b ∷ []) close 1 (close_leaf b) f4 f5 end refl sg2 in
    let before = grows_then opened (grows_then stated g.grows) in
    let same : q ≡ nested_of p at keys (body_in b gap) =
    same_start q (nested_of p at keys (body_in b gap)) (omega (arith, bracket_start b at gap, sg.end_is, g.grows.place))
    (omega (
      arith,
      grown_values (both (only (token (open_leaf b) (open_byte b ∷ []))) (both (one_value begin) (only gap))) before,
    )) (omega (
      arith,
      grown_keys (both (only (token (open_leaf b) (open_byte b ∷ []))) (both (one_value begin) (only gap))) before,
    ))
    (i3 ∙ ap (owner_in b) (n1 ∙ sym n2) ∙ bracket_owner b gap p.values) i4 refl in
    let whole = grows_then opened (grows_then stated (grows_then g.grows (grows_then en.read.grows closed))) in
    let ended = grows_changed (with_end end) number _ begin (entries_values q es ++ []) refl n1 whole change in
    let ends : end ≡ value_end at (body_in b gap) es =
    omega (arith, bracket_end b at gap es, sg.end_is, g.grows.place, en.read.grows.place, sg2.end_is) in
    record {
      part = v;
      bound = sg2.bound;
      forward = omega (arith, sg.end_is, g.forward, en.read.forward, sg2.end_is);
      is_read =
          rw (opens_at profile b text at open' first' f2 f3 sg.end_is g, en.read.is_read)
          (ap (λ (t : List ℕ). done (v, t)) (after_sign text close end sg2.end_is));
      grows = grows_as (value_taken p at keys v)
          (same_taken _ (value_taken p at keys v) (bracket_leaves b gap es) refl
          (append-nil (entries_parts first' es) ∙ ap (λ (x : Start). entries_parts x.at es) same)
          (ap (λ (xs : List ValueInfo). begun (open_leaf b) at end keys p ∷ xs)
          (append-nil (entries_values q es) ∙ ap (λ (x : Start). entries_values x es) same)
          ∙ ap (λ (n : ℕ). begun (open_leaf b) at n keys p ∷ entries_values (nested_of p at keys (body_in b gap)) es)
          ends
          ∙ ap (λ (l : Leaf).
          begun l at (value_end at (body_in b gap) es) keys p ∷ entries_values (nested_of p at keys (body_in b gap)) es)
          (bracket_leaf b gap)))
          ended;
    }
