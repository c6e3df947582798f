-- A document's first newline is the same in a document that changes lead to which leave it.
--
-- Where the text has no carriage return, each newline is a line feed, before and after (`PlainTexts`). Else no change
-- comes before the end of the first line: so the other document's text begins with that line, and so does the document.
--
-- Theorems: `plain_by`; `newline_by`, `stays_first`, `first_behind`: by what is known of the document;
-- `first_line_within`; `first_known`: what is known by the text; `newline_stays`.
use Rattle.std.proofs.Common.{◌≡◌, ℕ, ◌+◌, ◌-◌, ◌≤◌, Bool, true, false, ◌||◌, List, [], ◌∷◌, ◌++◌, length, take, refl}
use Rattle.std.proofs.Common.{sym, ap}
use Rattle.std.proofs.Common.{subst, subst₂, ◌∙◌, All, arith, append_assoc, Option, Some, None, ◌==◌, eq-eqb}
use Rattle.std.specs.Prelude.{◌≢◌}
use Rattle.std.specs.List.{AllByRecursion}
use Rattle.std.proofs.lemmas.List.{length-append}
use Rattle.std.proofs.lemmas.List.Elements.{All-append, All-cons, All-head, All-nil, All-weaker}
use Rattle.std.proofs.Math.Seq.{take-append-add}
use Rattle.keep_types.specs.declared.leaf.Profile.{Profile}
use Rattle.keep_syntax.specs.Tree.{Document, Ended, bom_leaves, ended_leaves, text, text_of}
use Rattle.keep_syntax.specs.Grammar.{IsEnded}
use Rattle.keep_syntax.proofs.Shared.{one_document}
use Rattle.keep_syntax.proofs.DocumentLaws.{document_text, lines-cons, lines_text}
use Rattle.keep_edit_spec.specs.FirstNewline.{ComesAfter, HasFirst, IsPlain, LeavesFirst, LeavesFirstAtEnd}
use Rattle.keep_edit_spec.specs.FirstNewline.{LeavesNewline}
use Rattle.keep_edit_spec.specs.FirstNewline.{LeavesNewlineOf, first_line_text}
use Rattle.keep_edit_spec.specs.FirstNewline.{has_return}
use Rattle.keep_edit_spec.specs.Laws.{IsEditable}
use Rattle.keep_edit_spec.specs.Lines.{newline_of}
use Rattle.keep_edit_spec.specs.TextChanges.{TextChange, change_at, text_with}
use Rattle.keep_edit_spec.proofs.Lists.FirstLines.{same_first_line}
use Rattle.keep_edit_spec.proofs.Lists.HeaderPlaces.{newline_kept}
use Rattle.keep_edit_spec.proofs.Lists.PlainTexts.{plain_newline, plain_with}

-- ---- texts without a carriage return

is_return : (y : ℕ) → y ≡ 0x0D → (y == 0x0D) ≡ true
is_return y e = eq-eqb y 0x0D e

pub plain_by : (bytes : List ℕ) → has_return bytes ≡ false → IsPlain bytes
plain_by [] h = All-nil (λ (b : ℕ). b ≢ 0x0D)
plain_by (x ∷ bytes) h = by (x == 0x0D) refl h (plain_by bytes)
  where
    by : (t : Bool) → (x == 0x0D) ≡ t → (t || has_return bytes) ≡ false → (has_return bytes ≡ false → IsPlain bytes)
        → IsPlain (x ∷ bytes)
    by true e k rest = absurd cc
    by false e k rest =
        All-cons (λ (b : ℕ). b ≢ 0x0D) x bytes
        (λ (same : x ≡ 0x0D). absurd (let z : true ≡ false = sym (is_return x same) ∙ e in cc)) (rest k)

-- ---- texts that begin alike

-- what comes after so many bytes leaves them
begins_still : (line rest : List ℕ) (cs : List TextChange) → All (λ c. length line ≤ c.at) cs
    → (more : List ℕ) × (text_with 0 (line ++ rest) cs ≡ line ++ more)
begins_still line rest [] h = (rest, refl)
begins_still line rest (c ∷ cs) h =
    let after : length line ≤ c.at = All-head (λ (d : TextChange). length line ≤ d.at) c cs h in
    let more = c.new ++ text_with (c.at + c.size) (line ++ rest) cs in (
      take (c.at - length line) rest ++ more,
      ap (λ t. t ++ more)
          (ap (λ n. take n (line ++ rest))
          (let z : c.at ≡ length line + (c.at - length line) = omega (arith, after) in z)
          ∙ take-append-add line rest (c.at - length line))
          ∙ append_assoc line (take (c.at - length line) rest) more,
    )

module _ (profile : Profile) (limit : ℕ) (s now : Document) (fine : IsEditable profile limit s)
    (then : IsEditable profile limit now) where
  -- where the other document's text begins with the first line
  module _ (line more : List ℕ) (is : text now ≡ line ++ more) where
    by_line : (ended : List Ended) → s.ended ≡ ended → first_line_text s.bom ended ≡ Some line
        → (newline_of now ≡ newline_of s) × (first_line_text now.bom now.ended ≡ Some line)
    by_line [] e has = absurd cc
    by_line (x ∷ es) e has =
        let valid : AllByRecursion (IsEnded profile) (x ∷ es) =
        subst (AllByRecursion (IsEnded profile)) e fine.valid.ended in
        let first = text_of (bom_leaves s.bom) in
        let spelled : first ++ text_of (ended_leaves x) ≡ line = cc in
        let (bom, (others, lines)) =
        same_first_line profile s.bom x more now valid.0 then.valid
        (is ∙ ap (λ t. t ++ more) (sym spelled) ∙ append_assoc first (text_of (ended_leaves x)) more) in (
          ap (λ (b : Bool). newline_of (record { bom = b; ended = now.ended; last = now.last })) bom
              ∙ ap (λ (l : List Ended). newline_of (record { bom = s.bom; ended = l; last = now.last })) lines
              ∙ newline_kept s.bom x others es now.last s.last valid.0.kind
              ∙ ap (λ (l : List Ended). newline_of (record { bom = s.bom; ended = l; last = s.last })) (sym e),
          subst₂ (λ (b : Bool) (l : List Ended). first_line_text b l ≡ Some line) (sym bom) (sym lines) has,
        )

  begins_so : (line : List ℕ) → first_line_text s.bom s.ended ≡ Some line → (rest : List ℕ) × (text s ≡ line ++ rest)
  begins_so line = by s.ended refl
    where
      by : (ended : List Ended) → s.ended ≡ ended → first_line_text s.bom ended ≡ Some line
          → (rest : List ℕ) × (text s ≡ line ++ rest)
      by [] e has = absurd cc
      by (x ∷ es) e has =
          let first = text_of (bom_leaves s.bom) in
          let spelled : first ++ text_of (ended_leaves x) ≡ line = cc in (
            lines_text es s.last,
            document_text s ∙ ap (λ l. first ++ lines_text l s.last) e
                ∙ ap (λ t. first ++ t) (lines-cons x es s.last)
                ∙ sym (append_assoc first (text_of (ended_leaves x)) (lines_text es s.last))
                ∙ ap (λ t. t ++ lines_text es s.last) spelled,
          )

  -- after changes that leave the first newline it is the same, and known as before
  pub stays_first : (first : Option (List ℕ)) (cs : List TextChange) → text now ≡ text_with 0 (text s) cs
      → HasFirst first s → All (LeavesFirst first) cs → (newline_of now ≡ newline_of s) × HasFirst first now
  stays_first None cs is has leave =
      let plain : IsPlain (text now) = subst IsPlain (sym is) (plain_with (text s) cs has leave) in (
        plain_newline profile limit now then plain ∙ sym (plain_newline profile limit s fine has),
        plain,
      )
  stays_first (Some line) cs is has leave =
      let (rest, begins) = begins_so line has in
      let (more, still) = begins_still line rest cs leave in
      by_line line more (is ∙ ap (λ t. text_with 0 t cs) begins ∙ still) s.ended refl has

  -- and so it is where more comes behind the text
  pub first_behind : (first : Option (List ℕ)) (new : List ℕ) → text now ≡ text s ++ new → HasFirst first s
      → LeavesFirstAtEnd first new → HasFirst first now
  first_behind None new is has leave = subst IsPlain (sym is) (All-append (λ (b : ℕ). b ≢ 0x0D) (text s) new has leave)
  first_behind (Some line) new is has leave =
      let (rest, begins) = begins_so line has in
      (by_line line (rest ++ new) (is ∙ ap (λ t. t ++ new) begins ∙ append_assoc line rest new) s.ended refl has).1

-- two documents of which the same is known have one first newline
pub newline_by : (profile : Profile) (limit : ℕ) (s now : Document) → IsEditable profile limit s
    → IsEditable profile limit now → (first : Option (List ℕ)) → HasFirst first s → HasFirst first now
    → newline_of now ≡ newline_of s
newline_by profile limit s now fine then None has still =
    plain_newline profile limit now then still ∙ sym (plain_newline profile limit s fine has)
newline_by profile limit s now fine then (Some line) has still =
    let (rest, begins) = begins_so profile limit now s then fine line still in
    (by_line profile limit s now fine then line rest begins s.ended refl has).0

-- the first line is in the text
pub first_line_within : (profile : Profile) (limit : ℕ) (s : Document) → IsEditable profile limit s
    → (line : List ℕ) → first_line_text s.bom s.ended ≡ Some line → length line ≤ length (text s)
first_line_within profile limit s fine line has =
    let (rest, begins) = begins_so profile limit s s fine fine line has in
    omega (arith, ap (λ (b : List ℕ). length b) begins, length-append line rest)

-- ---- by the text

-- What a document's first newline is known by, where a change leaves it.
pub record FirstKnown (s : Document) : Type 0 where
  pub first : Option (List ℕ)
  pub has : HasFirst first s
  pub leaves : (c : TextChange) → LeavesNewline s c → LeavesFirst first c
  pub at_end : (new : List ℕ) → LeavesNewline s (change_at (length (text s)) 0 new) → LeavesFirstAtEnd first new

module _ (s : Document) (c : TextChange) where
  by_first : (ended : List Ended) → s.ended ≡ ended → has_return (text s) ≡ true
      → ComesAfter (first_line_text s.bom ended) c → FirstKnown s
  by_first [] same returns h = absurd h
  by_first (x ∷ es) same returns h = record {
    first = first_line_text s.bom (x ∷ es);
    has = ap (first_line_text s.bom) same;
    leaves = λ d k. subst (λ (ended : List Ended). ComesAfter (first_line_text s.bom ended) d) same
        (subst (λ (b : Bool). LeavesNewlineOf b s d) returns k);
    at_end = λ new k. tt;
  }

  pub first_known : LeavesNewline s c → FirstKnown s
  first_known = by (has_return (text s)) refl
    where
      by : (b : Bool) → has_return (text s) ≡ b → LeavesNewlineOf b s c → FirstKnown s
      by true e h = by_first s.ended refl e h
      by false e h = record {
        first = None;
        has = plain_by (text s) e;
        leaves = λ d. subst (λ (b : Bool). LeavesNewlineOf b s d) e;
        at_end = λ new. subst (λ (b : Bool). LeavesNewlineOf b s (change_at (length (text s)) 0 new)) e;
      }

pub newline_stays : (profile : Profile) (limit : ℕ) (s now : Document) → IsEditable profile limit s
    → IsEditable profile limit now → (cs : List TextChange) → text now ≡ text_with 0 (text s) cs
    → All (LeavesNewline s) cs → newline_of now ≡ newline_of s
newline_stays profile limit s now fine then [] is leave =
    ap newline_of (one_document profile now s then.valid fine.valid is)
newline_stays profile limit s now fine then (c ∷ cs) is leave =
    let known : FirstKnown s = first_known s c (All-head (LeavesNewline s) c cs leave) in
    (stays_first profile limit s now fine then known.first (c ∷ cs) is known.has
    (All-weaker (LeavesNewline s) (LeavesFirst known.first) known.leaves (c ∷ cs) leave)).0
