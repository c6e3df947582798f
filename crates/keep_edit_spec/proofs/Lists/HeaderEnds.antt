-- Where bodies end once a header came at the end of a text that ends in a newline: where they did.
--
-- The lines that come, and the last line, which is blank, are none of a body that began before: blank lines at the end
-- do not count, and a header ends the body before it. So a body's length is the same (`lengths_same`), and so is its
-- end, if the header does not begin it once more (`ends_same`, both by induction over the lines). Nor do the new lines
-- lead through a path by dots, so the last line that does is the same (`leads_headed`); and so is the last header that
-- goes through a path, if the new one does not (`through_headed`).
--
-- Theorems: `lengths_same`, `last_headed`, `leads_headed`, `through_headed`, `end_headed`, `body_end_headed`.
use Rattle.std.proofs.Common.{◌≡◌, ℕ, suc, ◌+◌, ◌≤◌, Bool, true, false, ◌&&◌, List, [], ◌∷◌, ◌++◌, length, map, drop}
use Rattle.std.proofs.Common.{refl, sym, ap, ap₂, ◌∙◌, arith, Option, Some, None}
use Rattle.std.proofs.lemmas.List.{drop-append-le, length-map}
use Rattle.keep_syntax.specs.Tree.{Content, Document, Line, blank, element, header, keyval}
use Rattle.keep_path.specs.Path.{Part}
use Rattle.keep_meaning.specs.Marks.{Reading, start}
use Rattle.keep_meaning.specs.Meaning.{after_line, line_mentions, line_of, lines, reading_after_lines}
use Rattle.keep_meaning.specs.Nodes.{has, is_through}
use Rattle.keep_edit_spec.specs.Edits.{end_of}
use Rattle.keep_edit_spec.specs.Lines.{begins, body_end, body_length, is_header, last_line, leads_dotted}
use Rattle.keep_edit_spec.specs.Lines.{leads_through, more_lines, plain_line}
use Rattle.keep_edit_spec.proofs.Lists.BodyEnds.{end_at, end_cons, end_in, end_or, header_none, length_after}
use Rattle.keep_edit_spec.proofs.Lists.HeaderLines.{headed, last_before, lines_are, not_last, put_is}

pub lengths_same : (first more others : List Line) → body_length more ≡ body_length others
    → body_length (first ++ more) ≡ body_length (first ++ others)
lengths_same [] more others h = h
lengths_same (l ∷ first) more others h = ap (length_after l.content) (lengths_same first more others h)

ends_same : (a : List Part) (r : Reading) (first more others : List Line) → body_length more ≡ body_length others
    → end_in a (reading_after_lines r first) more ≡ end_in a (reading_after_lines r first) others
    → end_in a r (first ++ more) ≡ end_in a r (first ++ others)
ends_same a r [] more others h same = same
ends_same a r (l ∷ first) more others h same =
    end_cons a r l (first ++ more)
    ∙ ap₂ (λ (n : ℕ) (o : Option ℕ). end_or (begins a r l) n o) (lengths_same first more others h)
    (ends_same a (after_line r l) first more others h same)
    ∙ sym (end_cons a r l (first ++ others))

-- what a blank line and a header do not do
none_begins : (a : List Part) (r : Reading) (l : Line) → l.content ≡ blank → begins a r l ≡ false
none_begins a r l e = ap (λ (x : Content). begins a r (plain_line x)) e

none_leads : (a : List Part) (r : Reading) (l : Line) → l.content ≡ blank → leads_dotted a r l ≡ false
none_leads a r l e = ap (λ (x : Content). leads_dotted a r (plain_line x)) e

pub none_through : (a : List Part) (r : Reading) (l : Line) → l.content ≡ blank → leads_through a r l ≡ false
none_through a r l e = ap (λ (x : Content). is_header x && has is_through a (line_mentions r l)) e

header_leads : (a : List Part) (r : Reading) (c : Content) → is_header c ≡ true
    → leads_dotted a r (plain_line c) ≡ false
header_leads a r blank h = absurd cc
header_leads a r (keyval name value) h = absurd cc
header_leads a r (header before k after) h = refl
header_leads a r (element before k after) h = refl

module _ (s : Document) (content : Content) (empty : s.last.content ≡ blank) (is : is_header content ≡ true) where
  abbrev first : List Line
  first = map line_of s.ended

  abbrev last : List Line
  last = s.last ∷ []

  abbrev more : List Line
  more = plain_line blank ∷ plain_line content ∷ last

  abbrev at_end : Reading
  at_end = reading_after_lines start first

  -- no body goes on in them
  none_more : body_length more ≡ body_length last
  none_more =
      ap (more_lines false) (header_none content (body_length last) is)
      ∙ sym (ap (λ (x : Content). length_after x 0) empty)

  now_are : lines (headed s content).to ≡ first ++ more
  now_are = ap lines (put_is s content) ∙ lines_are s content

  -- ---- the last line that passes a test which blank lines do not pass

  module _ (test : Reading → Line → Bool)
      (blanks : (r : Reading) (l : Line) → l.content ≡ blank → test r l ≡ false) where
    none_in_last : (r : Reading) → last_line test r last ≡ None
    none_in_last r = not_last test r s.last [] (blanks r s.last empty) refl

    none_in_more : test at_end (plain_line content) ≡ false → last_line test at_end more ≡ None
    none_in_more other =
        not_last test at_end (plain_line blank) (plain_line content ∷ last) (blanks at_end (plain_line blank) refl)
        (not_last test at_end (plain_line content) last other
        (none_in_last (after_line at_end (plain_line content))))

    last_now : test at_end (plain_line content) ≡ false
        → last_line test start (lines (headed s content).to) ≡ last_line test start (lines s)
    last_now other =
        ap (last_line test start) now_are ∙ last_before test start first more (none_in_more other)
        ∙ sym (last_before test start first last (none_in_last at_end))

  -- the line that begins a body
  pub last_headed : (a : List Part) → begins a at_end (plain_line content) ≡ false
      → last_line (begins a) start (lines (headed s content).to) ≡ last_line (begins a) start (lines s)
  last_headed a other = last_now (begins a) (none_begins a) other

  -- the last line whose key leads through a path
  pub leads_headed : (a : List Part)
      → last_line (leads_dotted a) start (lines (headed s content).to) ≡ last_line (leads_dotted a) start (lines s)
  leads_headed a = last_now (leads_dotted a) (none_leads a) (header_leads a at_end content is)

  -- the last header that goes through a path
  pub through_headed : (a : List Part) → leads_through a at_end (plain_line content) ≡ false
      → last_line (leads_through a) start (lines (headed s content).to) ≡ last_line (leads_through a) start (lines s)
  through_headed a other = last_now (leads_through a) (none_through a) other

  -- ---- the ends

  -- of the body of a line with a newline
  pub body_end_headed : (i : ℕ) → suc i ≤ length s.ended
      → body_end i (lines (headed s content).to) ≡ body_end i (lines s)
  body_end_headed i few =
      let within : suc i ≤ length first = omega (arith, few, length-map s.ended line_of) in
      ap (body_end i) now_are
      ∙ ap (λ (n : ℕ). suc i + n)
      (ap body_length (drop-append-le (suc i) first more within)
      ∙ lengths_same (drop (suc i) first) more last none_more
      ∙ ap body_length (sym (drop-append-le (suc i) first last within)))

  none_begun : (a : List Part) → begins a at_end (plain_line content) ≡ false
      → end_in a at_end more ≡ end_in a at_end last
  none_begun a other =
      ap (end_at more) (none_in_more (begins a) (none_begins a) other)
      ∙ sym (ap (end_at last) (none_in_last (begins a) (none_begins a) at_end))

  pub end_headed : (a : List Part) → begins a at_end (plain_line content) ≡ false
      → end_of (headed s content).to a ≡ end_of s a
  end_headed [] other =
      ap (λ (ls : List Line). Some (body_length ls)) now_are
      ∙ ap (λ (n : ℕ). Some n) (lengths_same first more last none_more)
  end_headed (p ∷ ps) other =
      ap (end_in (p ∷ ps) start) now_are
      ∙ ends_same (p ∷ ps) start first more last none_more (none_begun (p ∷ ps) other)
