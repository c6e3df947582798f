-- What the bytes of a text and its line starts tell of a document: no byte order mark begins it if the first byte is
-- another, and its last line is empty if a line begins where the text ends.
--
-- Theorems: `no_mark`: no byte order mark begins it; `span_in`: a span of the text, not in the byte order mark, is a
-- span of what was read; `last_is_empty`: its last line is empty.
use Rattle.std.proofs.Common.{◌≡◌, ℕ, ◌+◌, ◌≤◌, ◌⊎◌, Bool, true, false, List, [], ◌∷◌, ◌++◌, length, Some, None, Option}
use Rattle.std.proofs.Common.{refl, ap, ◌∙◌, inl, inr, arith, le-leb}
use Rattle.std.specs.Prelude.{slice_index, leb}
use Rattle.std.specs.List.{flat_map}
use Rattle.std.proofs.lemmas.List.{length-append}
use Rattle.keep_types.specs.declared.leaf.Profile.{Profile}
use Rattle.keep_types.specs.declared.syntax.Span.{Span}
use Rattle.keep_syntax.specs.declared.syntax.Syntax.{Syntax}
use Rattle.keep_syntax.specs.Tree.{Written, Gap, Content, blank, keyval, header, element, Line, Ended, Document}
use Rattle.keep_syntax.specs.Tree.{line_leaves, ended_leaves, bom_leaves, text_of, text}
use Rattle.keep_syntax.specs.Grammar.{IsDocument}
use Rattle.keep_syntax.specs.Numbered.{width, span}
use Rattle.keep_syntax.specs.WholeLines.{empty_line, line_starts, last_to, begin, touched}
use Rattle.keep_syntax.specs.Contract.{IsReadOf, IsSpanIn}
use Rattle.keep_syntax.proofs.Shared.{BeginsChar, AreSome, document_some, all_back, width-append, bytes_of, text_length}
use Rattle.keep_syntax_store.proofs.Shared.{if_true}

-- ---- the byte order mark

-- its first byte begins no other text
pub no_mark : (d : Document) (bytes : List ℕ) → bytes ≡ text d → (slice_index bytes 0 ≡ 0xEF → ⊥) → d.bom ≡ false
no_mark d bytes spelled plain = by d.bom refl
  where
    by : (b : Bool) → d.bom ≡ b → d.bom ≡ false
    by false k = k
    by true k =
        let first : slice_index (text d) 0 ≡ 0xEF = ap (λ (b : Bool). slice_index (text (record d { bom = b })) 0) k in
        absurd (plain (ap (λ (t : List ℕ). slice_index t 0) spelled ∙ first))

-- the lines begin there, or three bytes later
pub begin_low : (d : Document) (bytes : List ℕ) (place : ℕ) → bytes ≡ text d
    → (3 ≤ place) ⊎ (slice_index bytes 0 ≡ 0xEF → ⊥) → begin d ≤ place
begin_low d bytes place spelled (inl far) = by d.bom
  where
    by : (b : Bool) → width (bom_leaves b) ≤ place
    by true = far
    by false = omega arith
begin_low d bytes place spelled (inr plain) =
    let none = ap (λ (b : Bool). width (bom_leaves b)) (no_mark d bytes spelled plain) in
    omega (arith, none)

pub span_in : {profile : Profile} {limit : ℕ} {bytes : List ℕ} {s : Syntax} → IsReadOf profile limit bytes s
    → (sp : Span) → (3 ≤ sp.start) ⊎ (slice_index bytes 0 ≡ 0xEF → ⊥) → sp.start ≤ sp.end
    → sp.end ≤ length bytes → IsSpanIn s sp
span_in {bytes = bytes} (d, reads, is) sp after order within =
    record {
      document = d;
      is = is;
      low = begin_low d bytes sp.start reads.spelled after;
      order = order;
      within = omega (arith, within, ap length reads.spelled);
    }

-- ---- the last line

last_start : (place low at : ℕ) (es : List Ended) → at + bytes_of es ≤ place
    → last_to place low (line_starts at es) ≡ at + bytes_of es
last_start place low at [] h = if_true (leb at place) at low (le-leb at place (omega (arith, h))) ∙ omega arith
last_start place low at (e ∷ es) h =
    let w = width-append (ended_leaves e) (flat_map ended_leaves es) in
    if_true (leb at place) _ low (le-leb at place (omega (arith, h)))
    ∙ last_start place at (at + width (ended_leaves e)) es (omega (arith, h, w))
    ∙ omega (arith, w)

-- each leaf has a byte
no_leaves : (ws : List Written) → AreSome ws → width ws ≡ 0 → ws ≡ []
no_leaves [] some none = refl
no_leaves (w ∷ ws) some none = absurd (omega (arith, some.0.0, none, length-append w.text (text_of ws)))

empty_of : (l : Line) → line_leaves l ≡ [] → l ≡ empty_line
empty_of l = by l.before l.content l.after l.comment
  where
    line : Gap → Content → Gap → Option Written → Line
    line b c a k = record { before = b; content = c; after = a; comment = k }

    by : (b : Gap) (c : Content) (a : Gap) (k : Option Written) → line_leaves (line b c a k) ≡ []
        → line b c a k ≡ empty_line
    by (w ∷ b) c a k e = absurd cc
    by [] (keyval name value) a k e = absurd cc
    by [] (header before key after) a k e = absurd cc
    by [] (element before key after) a k e = absurd cc
    by [] blank (w ∷ a) k e = absurd cc
    by [] blank [] (Some w) e = absurd cc
    by [] blank [] None e = refl

-- A document in which a line begins at the text's end has an empty last line.
pub last_is_empty : (profile : Profile) (d : Document) (place : ℕ) → IsDocument profile d → place ≡ length (text d)
    → (touched d (span place place)).start ≡ place → d.last ≡ empty_line
last_is_empty profile d place valid end first =
    let long = text_length d in
    let low : begin d + bytes_of d.ended ≤ place = omega (arith, long, end) in
    let same = last_start place (begin d) (begin d) d.ended low in
    let ended : List Written = flat_map ended_leaves d.ended in
    let all = document_some profile d valid in
    let inner = all_back BeginsChar (bom_leaves d.bom) (ended ++ line_leaves d.last) all in
    let some = all_back BeginsChar ended (line_leaves d.last) inner in
    empty_of d.last (no_leaves (line_leaves d.last) some (omega (arith, long, end, same, first)))
