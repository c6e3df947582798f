-- What the code stores of gaps, and how a fault goes through.
--
-- A scan gives a leaf and its end; the definitions have a leaf and its length (`moved_some`). What is stored grows by
-- that leaf (`leaf_grows`). White space is one leaf or none, by the first byte; a gap over lines is a loop, whose
-- leaves so far and what is left make the gap (`BlankSoFar`). A fault of a part is a fault of what it is part of
-- (`fails_through`).
--
-- Theorems: `white_leaf` and `other_byte`; `blank_more` and `blank_done`; `fails_through`.
use Rattle.std.proofs.Common.{◌≡◌, ℕ, ◌+◌, ◌<◌, ◌≤◌, ◌==◌, Bool, true, false, List, [], ◌∷◌, ◌++◌, length, get_or, take}
use Rattle.std.proofs.Common.{drop, Option, Some, None, Result, Ok, Err, refl, sym, ap, ◌∙◌, inl, inr, arith, add-zero}
use Rattle.std.proofs.Common.{append_assoc, IsCharBoundary}
use Rattle.std.proofs.lemmas.List.{append-nil, drop-drop, get_or-drop, length-drop, length-take}
use Rattle.keep_types.specs.declared.leaf.Leaf.{Leaf}
use Rattle.keep_types.specs.declared.leaf.Leaf.TheVariants as leaf
use Rattle.keep_token.specs.Scanning.{first, gap_at, moved}
use Rattle.keep_types.specs.declared.leaf.Profile.{Profile}
use Rattle.keep_token.proofs.Shared.{white, line, comment, nothing, gap_cases, tested}
use Rattle.keep_token.specs.Abnf.{is_ws}
use Rattle.keep_syntax.specs.declared.fault.ReadFault.{ReadFault}
use Rattle.keep_syntax.specs.declared.fault.ReadFault.TheVariants as faults
use Rattle.keep_syntax.specs.declared.info.Brackets.{Brackets}
use Rattle.keep_syntax.specs.Tree.{Gap, token}
use Rattle.keep_syntax.specs.Reading.{Fault, Bad, Deep, begins_gap, written, space_at, blank_at, prepended, is_free}
use Rattle.keep_syntax.specs.Reading.{gap_if}
use Rattle.keep_syntax_store.specs.Flat.{Flat, with_token}
use Rattle.keep_syntax.specs.Growth.{only, Grows, Fails, PunctuationIs, SpaceRead, BlankRead, GapRead, IsSyntax}
use Rattle.keep_syntax.proofs.LoopLaws.{done}
use Rattle.keep_syntax.proofs.SpaceLaws.{blank_step, blank_stop}
use Rattle.keep_syntax.proofs.GrowthLaws.{grows_nothing, grows_then, grows_token}

-- ---- places

-- a scan's leaf, with its length in place of its end
pub moved_some : (at : ℕ) (o : Option (Leaf × ℕ)) (l : Leaf) (end : ℕ) → Some (l, end) ≡ moved at o
    → (n : ℕ) × (o ≡ Some (l, n)) × (at + n ≡ end)
moved_some at None l end e = absurd cc
moved_some at (Some (k, n)) l end e =
    let f : (l, end) ≡ (k, at + n) = cc in
    (n, ap (λ (p : Leaf × ℕ). Some (p.0, n)) (sym f), sym (ap (λ (p : Leaf × ℕ). p.1) f))

pub moved_none : (at : ℕ) (o : Option (Leaf × ℕ)) → None ≡ moved at o → o ≡ None
moved_none at None e = refl
moved_none at (Some p) e = absurd cc

pub first-drop : (text : List ℕ) (at : ℕ) → first (drop at text) ≡ get_or text at 0
first-drop text at = rw (get_or-drop at text 0 0, add-zero) refl

-- the leaf that a scan finds is of the kind that is known
pub moved_kind : (at n : ℕ) (o : Option (Leaf × ℕ)) (known l : Leaf) (end : ℕ) → o ≡ Some (known, n)
    → Some (l, end) ≡ moved at o → Some (known, end) ≡ moved at o
moved_kind at n o known l end is e =
    let m = moved_some at o l end e in
    let both : ◌≡◌ {A = Option (Leaf × ℕ)} (Some (known, n)) (Some (l, m.0)) = sym is ∙ m.1 in
    let same : ◌≡◌ {A = Leaf × ℕ} (known, n) (l, m.0) = cc in
    let kind : known ≡ l = ap (λ (p : Leaf × ℕ). p.0) same in
    rw kind e

-- the text after a leaf of n bytes, and its length
pub after_leaf : (text : List ℕ) (at n end : ℕ) → at + n ≡ end → drop n (drop at text) ≡ drop end text
after_leaf text at n end e = drop-drop n at text ∙ ap (λ (m : ℕ). drop m text) e

pub leaf_end : (text : List ℕ) (at n end : ℕ) → at + n ≡ end → end ≤ length text
    → end ≡ at + length (take n (drop at text))
leaf_end text at n end e within = omega (arith, length-take n (drop at text), length-drop at text)

pub leaf_grows : (text : List ℕ) (at n end : ℕ) (l : Leaf) (old new : Flat) → at + n ≡ end → end ≤ length text
    → IsCharBoundary text at → new ≡ with_token l at old
    → Grows text old new at end (only (token l (take n (drop at text))))
leaf_grows text at n end l old new e within bound is =
    grows_token text (take n (drop at text)) l old new at end (leaf_end text at n end e within) bound is

pub sign_grows : (text t : List ℕ) (at len : ℕ) (l : Leaf) (old new : Flat) (end : ℕ) → length t ≡ len
    → PunctuationIs text at len l old new end → Grows text old new at end (only (token l t))
sign_grows text t at len l old new end e s =
    grows_token text t l old new at end (omega (arith, s.end_is)) s.start s.stored

-- the text after a sign of one byte
pub after_sign : (text : List ℕ) (at end : ℕ) → end ≡ at + 1 → drop 1 (drop at text) ≡ drop end text
after_sign text at end e = after_leaf text at 1 end (sym e)

-- ---- faults

pub fails_memory : {A : Type 0} (text : List ℕ) (e : ReadFault) (r : Result A Fault) → e ≡ faults.Memory
    → Fails text e r
fails_memory text e r is = rw is tt

pub fails_through : {A B : Type 0} (text : List ℕ) (e : ReadFault) (r : Result A Fault) (s : Result B Fault)
    → ((f : Fault) → r ≡ Err f → s ≡ Err f) → Fails text e r → Fails text e s
fails_through text (faults.Utf8 at) r s h k = k
fails_through text (faults.Syntax at what) r s h k = h Bad k
fails_through text (faults.TooDeep at) r s h k = (k.0, h (Deep (drop at text)) k.1)
fails_through text (faults.Define at why) r s h k = k
fails_through text faults.Memory r s h k = tt

-- a fault of the grammar, where nothing fits
pub fails_bad : {A : Type 0} (text : List ℕ) (e : ReadFault) (r : Result A Fault) → IsSyntax e → r ≡ Err Bad
    → Fails text e r
fails_bad text (faults.Utf8 at) r is bad = absurd is
fails_bad text (faults.Syntax at what) r is bad = bad
fails_bad text (faults.TooDeep at) r is bad = absurd is
fails_bad text (faults.Define at why) r is bad = absurd is
fails_bad text faults.Memory r is bad = absurd is

-- ---- white space

space_ws : (text : List ℕ) (n : ℕ) → gap_at text ≡ Some (leaf.Ws, n)
    → space_at text ≡ (token leaf.Ws (take n text), drop n text)
unfolding space_at
space_ws text n e = rw e refl

space_other : (text : List ℕ) → is_ws (first text) ≡ false → space_at text ≡ ([], text)
unfolding space_at
space_other text other =
    elim (gap_cases text) [
      | white r f ↦ absurd (let no : true ≡ false = sym f ∙ other in cc)
      | line m r f found ↦ rw r refl
      | comment m r f found stop ↦ rw r refl
      | nothing r f ↦ rw r refl
    ]

space_nothing : (text : List ℕ) → gap_at text ≡ None → space_at text ≡ ([], text)
unfolding space_at
space_nothing text e = rw e refl

pub no_space : (text : List ℕ) (at : ℕ) (f : Flat) → IsCharBoundary text at
    → space_at (drop at text) ≡ ([], drop at text) → SpaceRead text at f f (Ok at)
no_space text at f bound e =
    record { part = []; bound = bound; forward = omega arith; is_read = ap done e; grows = grows_nothing text f at }

pub other_byte : (text : List ℕ) (at : ℕ) (f : Flat) → IsCharBoundary text at → is_ws (get_or text at 0) ≡ false
    → SpaceRead text at f f (Ok at)
other_byte text at f bound other = no_space text at f bound (space_other (drop at text) (rw (first-drop text at) other))

pub white_leaf : (text : List ℕ) (at : ℕ) (old new : Flat) (end : ℕ) → IsCharBoundary text at → IsCharBoundary text end
    → Some (leaf.Ws, end) ≡ moved at (gap_at (drop at text)) → new ≡ with_token leaf.Ws at old
    → SpaceRead text at old new (Ok end)
white_leaf text at old new end bound bound' e is =
    let m = moved_some at (gap_at (drop at text)) leaf.Ws end e in
    let n = m.0 in
    record {
      part = token leaf.Ws (take n (drop at text));
      bound = bound';
      forward = omega (arith, m.2);
      is_read =
          ap done (space_ws (drop at text) n m.1
          ∙ ap (λ (t : List ℕ). (token leaf.Ws (take n (drop at text)), t)) (after_leaf text at n end m.2));
      grows = leaf_grows text at n end leaf.Ws old new m.2 bound'.0 bound is;
    }

-- ---- white space, newlines and comments

-- the leaves so far
pub record BlankSoFar (text : List ℕ) (at here : ℕ) (old now : Flat) : Type 0 where
  pub prefix : Gap
  pub bound : IsCharBoundary text here
  pub read : blank_at (drop at text) ≡ (prefix ++ (blank_at (drop here text)).0, (blank_at (drop here text)).1)
  pub grows : Grows text old now at here (only prefix)

pub blank_none : (text : List ℕ) (at : ℕ) (old : Flat) → IsCharBoundary text at → BlankSoFar text at at old old
blank_none text at old bound = record { prefix = []; bound = bound; read = refl; grows = grows_nothing text old at }

pub blank_more : (text : List ℕ) (at here : ℕ) (old now new : Flat) (l : Leaf) (end : ℕ)
    → BlankSoFar text at here old now → Some (l, end) ≡ moved here (gap_at (drop here text)) → here < end
    → IsCharBoundary text end → new ≡ with_token l here now → BlankSoFar text at end old new
blank_more text at here old now new l end s e lt bound is =
    let m = moved_some here (gap_at (drop here text)) l end e in
    let n = m.0 in
    let w = written l n (drop here text) in
    let step : blank_at (drop here text) ≡ prepended w (blank_at (drop n (drop here text))) =
    blank_step (drop here text) l n (omega (arith, m.2)) (omega (arith, m.2, length-drop here text, bound.0)) m.1 in
    let step' : blank_at (drop here text) ≡ prepended w (blank_at (drop end text)) =
    step ∙ ap (λ (t : List ℕ). prepended w (blank_at t)) (after_leaf text here n end m.2) in
    record {
      prefix = s.prefix ++ (w ∷ []);
      bound = bound;
      read = s.read ∙ ap (λ (x : Gap × List ℕ). (s.prefix ++ x.0, x.1)) step'
          ∙ ap (λ (g : Gap). (g, (blank_at (drop end text)).1))
          (sym (append_assoc s.prefix (w ∷ []) (blank_at (drop end text)).0));
      grows = grows_then s.grows (leaf_grows text here n end l now new m.2 bound.0 s.bound is);
    }

pub blank_done : (text : List ℕ) (at here : ℕ) (old now : Flat) → BlankSoFar text at here old now
    → None ≡ moved here (gap_at (drop here text)) → BlankRead text at old now (Ok here)
blank_done text at here old now s e =
    let stop : blank_at (drop here text) ≡ ([], drop here text) =
    blank_stop (drop here text) (moved_none here (gap_at (drop here text)) e) in
    record {
      part = s.prefix;
      bound = s.bound;
      forward = omega (arith, s.grows.place);
      is_read =
          ap done (s.read ∙ ap (λ (x : Gap × List ℕ). (s.prefix ++ x.0, x.1)) stop
          ∙ ap (λ (g : Gap). (g, drop here text)) (append-nil s.prefix));
      grows = s.grows;
    }

-- ---- the gap that a place allows

gap_none : (text : List ℕ) → begins_gap (first text) ≡ false → gap_at text ≡ None
unfolding gap_at
gap_none text other =
    elim (tested (is_ws (first text))) [
      | inl e ↦ absurd (let no = rw e at other in cc)
      | inr e ↦ elim (tested (first text == 0x0A)) [
        | inl f ↦ absurd (let no = rw (e, f) at other in cc)
        | inr f ↦ elim (tested (first text == 0x0D)) [
          | inl g ↦ absurd (let no = rw (e, f, g) at other in cc)
          | inr g ↦ let h : (first text == 0x23) ≡ false = rw (e, f, g) at other in rw (e, f, g, h) refl
        ]
      ]
    ]

-- no gap begins with this byte
pub no_gap : (profile : Profile) (b : Brackets) (text : List ℕ) (at : ℕ) (f : Flat) → IsCharBoundary text at
    → begins_gap (get_or text at 0) ≡ false → GapRead profile b text at f f (Ok at)
no_gap profile b text at f bound other =
    record {
      part = [];
      bound = bound;
      forward = omega arith;
      is_read = ap done (by (is_free profile b));
      grows = grows_nothing text f at;
    }
  where
    none : gap_at (drop at text) ≡ None
    none = gap_none (drop at text) (rw (first-drop text at) other)

    by : (free : Bool) → gap_if free (drop at text) ≡ ([], drop at text)
    by true = blank_stop (drop at text) none
    by false = space_nothing (drop at text) none
