-- What is found in the lines of a document after an insert brought the header of its table.
--
-- The insert puts in three lines where the body of a header ends that goes through the table. They begin no body but
-- the table's (BroughtBodies). All that their keyval says is at the path of the first new key or under it
-- (BroughtSaid), so it leads by dots through no path that does not begin with that one. So where none of the lines
-- began the body of another path, none does (`bare_now`), and where none led through such a path by dots, none does
-- (`dots_now`).
--
-- The body of another path ends where it did, or three lines later, if it does not end at the new lines; that of the
-- root ends before the first header (`end_moves`). If it ended at the new lines it ends there still (`end_stays`). The
-- last line that leads through a path by dots is the same, or three lines later, and in the same body (`dots_move`;
-- LinesBehind).
--
-- Theorems: `bare_now`, `dots_now`, `end_moves`, `end_stays`, `dots_move`.
use Rattle.std.proofs.Common.{◌≡◌, ◌≢◌, ℕ, ◌+◌, ◌<◌, ◌≤◌, true, List, [], ◌∷◌, ◌++◌, length, map, take, refl}
use Rattle.std.proofs.Common.{sym, ap, ap₂, subst, ◌∙◌, append_assoc, length-append, arith, Option, None, Some, ◌⊎◌}
use Rattle.std.proofs.Common.{inl, inr, false}
use Rattle.std.specs.List.{list_any}
use Rattle.std.proofs.lemmas.Bool.{and_parts}
use Rattle.keep_types.specs.declared.leaf.Profile.{Profile}
use Rattle.keep_syntax.specs.Tree.{Document, Line, Value}
use Rattle.keep_path.specs.Path.{Part, same_path, strip}
use Rattle.keep_meaning.specs.Marks.{Reading, below, header_path, start}
use Rattle.keep_meaning.specs.Meaning.{after_line, keyed_mentions, keys_of, lines, mentions_in, reading_after_lines}
use Rattle.keep_meaning.specs.Nodes.{has, is_dotted}
use Rattle.keep_edit_spec.specs.AddedLines.{first_new}
use Rattle.keep_edit_spec.specs.BroughtHeaders.{BringsHeader}
use Rattle.keep_edit_spec.specs.Edits.{edited_document, end_of, insert, key_with, name_with}
use Rattle.keep_edit_spec.specs.Laws.{IsEditable}
use Rattle.keep_edit_spec.specs.Lines.{begins, body_end, body_length, is_header, last_line, leads_dotted, reading_at}
use Rattle.keep_edit_spec.specs.Look.{holder, keys_in}
use Rattle.keep_edit_spec.specs.TextChanges.{TextChange}
use Rattle.keep_edit_spec.proofs.Common.BodyEnd.{IsLast, last_found, take_before}
use Rattle.keep_edit_spec.proofs.Common.Runs.{kinds_at-under}
use Rattle.keep_edit_spec.proofs.Insert.InsertDotted.{IsDotted, dotted_content}
use Rattle.keep_edit_spec.proofs.Lists.BodyEnds.{end_at, header_few, header_same}
use Rattle.keep_edit_spec.proofs.Lists.BroughtBodies as bodies
use Rattle.keep_edit_spec.proofs.Lists.BroughtBodies.{are, behind_same, new_none, new_there, none_now, not_begun}
use Rattle.keep_edit_spec.proofs.Lists.BroughtBodies.{still_before, still_last, were}
use Rattle.keep_edit_spec.proofs.Lists.BroughtLines as brought
use Rattle.keep_edit_spec.proofs.Lists.BroughtLines.{head, last, long, reading_is}
use Rattle.keep_edit_spec.proofs.Lists.BroughtSaid.{run, under}
use Rattle.keep_edit_spec.proofs.Lists.BroughtWay.{path_is}
use Rattle.keep_edit_spec.proofs.Lists.DottedAfter.{bare_by}
use Rattle.keep_edit_spec.proofs.Lists.LinesAfterBody.{IsLastBefore, IsStillLast, bodiless_begins, bodiless_dotted}
use Rattle.keep_edit_spec.proofs.Lists.LinesBehind.{IsBehind, last_place, reading_behind, same_reading}
use Rattle.keep_edit_spec.proofs.Lists.OneLineMore.{reading_alike}

-- a number of a line, with so many lines more before line n
abbrev pub IsMoved : ℕ → ℕ → ℕ → ℕ → Type 0
IsMoved n more i j = ((j ≡ i) × (i < n)) ⊎ ((j ≡ more + i) × (n ≤ i))

-- Of a path whose body ended before line m: it ends before this line now.
pub record IsEndMoved (now : Document) (b : List Part) (n more m : ℕ) : Type 0 where
  pub number : ℕ
  pub ends : end_of now b ≡ Some number
  pub moves : IsMoved n more m number

-- Of a path through which line i led by dots as the last one: this line does now, in the same body.
pub record IsLeadMoved (s now : Document) (b : List Part) (n more i : ℕ) : Type 0 where
  pub number : ℕ
  pub last : last_line (leads_dotted b) start (lines now) ≡ Some number
  pub body : (reading_at number (lines now)).body ≡ (reading_at i (lines s)).body
  pub moves : IsMoved n more i number

module _ (profile : Profile) (limit : ℕ) (s : Document) (path : List Part) (value : Value) (c : TextChange)
    (fine : IsEditable profile limit s) (h : BringsHeader profile limit s path value c) where
  abbrev now : Document
  now = edited_document s (insert path value)

  abbrev a : List Part
  a = holder path (mentions_in s)

  abbrev n : ℕ
  n = brought.n profile limit s path value c h

  abbrev pre : List Line
  pre = bodies.pre profile limit s path value c fine h

  abbrev here : Line
  here = bodies.here profile limit s path value c fine h

  abbrev body : List Line
  body = brought.body profile limit s path value c h

  abbrev rest : List Line
  rest = brought.rest profile limit s path value c h

  abbrev first : List Line
  first = brought.first profile limit s path value c h

  abbrev new : List Line
  new = bodies.new profile limit s path value c fine h

  abbrev r : Reading
  r = brought.r profile limit s path value c h

  abbrev header : Line
  header = bodies.header profile limit s path value c fine h

  abbrev statement : Line
  statement = bodies.statement profile limit s path value c fine h

  abbrev own_path : List Part
  own_path = header_path r.tables [] (keys_of (key_with (keys_in a)))

  -- ---- the body of another path

  none_begun : (b : List Part) → a ≢ b → last_line (begins b) r new ≡ None
  none_begun b differs =
      new_none profile limit s path value c fine h (begins b) refl
      (not_begun profile limit s path value c fine h b differs) refl

  pub bare_now : (b : List Part) → a ≢ b → end_of s b ≡ None → end_of now b ≡ None
  bare_now b differs bare =
      bare_by s now b bare
      (none_now profile limit s path value c fine h (begins b) (bodiless_begins b) (none_begun b differs))

  -- that of the root ends before the first header
  module _ (m : ℕ) (ends : end_of s [] ≡ Some m) where
    whole : (more : List Line) → first ++ more ≡ pre ++ here ∷ (body ++ more)
    whole = append_assoc pre (here ∷ body)

    is : is_header here.content ≡ true
    is = head profile limit s path value c h

    number : m ≡ body_length (pre ++ here ∷ (body ++ rest))
    number =
        (let same : m ≡ body_length (lines s) = cc in same)
        ∙ ap body_length (were profile limit s path value c fine h ∙ whole rest)

    root_less : m < n
    root_less =
        omega (
          arith,
          number,
          header_few pre here (body ++ rest) is,
          length-append pre (here ∷ body),
          long profile limit s path value c h,
        )

    root_stays : IsEndMoved now [] n (length new) m
    root_stays = record {
      number = m;
      ends = ap (λ (ls : List Line). Some (body_length ls))
          (are profile limit s path value c fine h ∙ whole (new ++ rest))
          ∙ ap (λ (k : ℕ). Some k)
          (header_same pre here (body ++ (new ++ rest)) (body ++ rest) is ∙ sym number);
      moves = inl (refl, root_less);
    }

  -- a body begins with a header
  heads : (b : List Part) (x : Reading) (l : Line) → begins b x l ≡ true → is_header l.content ≡ true
  heads b x l begun = (and_parts (is_header l.content) (same_path (after_line x l).body b) begun).0

  pub end_moves : (b : List Part) → a ≢ b → (m : ℕ) → end_of s b ≡ Some m → (m ≡ n → ⊥)
      → IsEndMoved now b n (length new) m
  end_moves [] differs m ends other = root_stays m ends
  end_moves (p ∷ ps) differs m ends other = by (last_line (begins (p ∷ ps)) start (lines s)) refl ends
    where
      b : List Part
      b = p ∷ ps

      by : (o : Option ℕ) → last_line (begins b) start (lines s) ≡ o → end_at (lines s) o ≡ Some m
          → IsEndMoved now b n (length new) m
      by None found e = absurd cc
      by (Some i) found e =
          let is : body_end i (lines s) ≡ m = cc in
          let still : IsStillLast (begins b) (lines s) (lines now) n (length new) i =
          still_last profile limit s path value c fine h (begins b) (bodiless_begins b)
          (heads b) (inr (new_there profile limit s path value c fine h (begins b) (none_begun b differs))) i found
          (λ there. other (sym is ∙ there)) in
          record {
            number = body_end still.number (lines now);
            ends = ap (end_at (lines now)) still.last;
            moves = subst (λ (k : ℕ). IsMoved n (length new) k (body_end still.number (lines now))) is still.ends;
          }

  -- where it ended at the new lines, it ends there still
  pub end_stays : (b : List Part) → a ≢ b → end_of s b ≡ Some n → end_of now b ≡ Some n
  end_stays [] differs ends = absurd (omega (arith, root_less n ends))
  end_stays (p ∷ ps) differs ends = by (last_line (begins (p ∷ ps)) start (lines s)) refl ends
    where
      b : List Part
      b = p ∷ ps

      by : (o : Option ℕ) → last_line (begins b) start (lines s) ≡ o → end_at (lines s) o ≡ Some n
          → end_of now b ≡ Some n
      by None found e = absurd cc
      by (Some i) found e =
          let still : IsLastBefore (begins b) (lines now) n i =
          still_before profile limit s path value c fine h (begins b) (bodiless_begins b) (heads b)
          (none_begun b differs) i found (let is : body_end i (lines s) ≡ n = cc in is) in
          ap (end_at (lines now)) still.last ∙ ap (λ (m : ℕ). Some m) still.ends

  -- ---- the last line that leads by dots through a path which is not under that of the first new key

  module _ (b : List Part) (clear : strip (first_new s path) b ≡ None) where
    not_dotted : leads_dotted b (after_line r header) statement ≡ false
    not_dotted =
        ap (λ (p : List Part).
        has is_dotted b (map (below p) (keyed_mentions (keys_of (name_with (h.text ∷ h.more)).key) [])))
        (path_is profile limit s path value c fine h)
        ∙ ap (list_any is_dotted)
        (kinds_at-under (first_new s path) b (run profile limit s path value c fine h [])
        (under profile limit s path value c fine h []) clear)

    none_dotted : last_line (leads_dotted b) r new ≡ None
    none_dotted = new_none profile limit s path value c fine h (leads_dotted b) refl refl not_dotted

    pub dots_now : last_line (leads_dotted b) start (lines s) ≡ None
        → last_line (leads_dotted b) start (lines now) ≡ None
    dots_now = none_now profile limit s path value c fine h (leads_dotted b) (bodiless_dotted b) none_dotted

    abbrev at : Reading
    at = reading_after_lines start first

    -- a line behind the new ones, which comes after the next header
    behind_reading : (k : ℕ) → last_line (leads_dotted b) at rest ≡ Some k
        → reading_after_lines (reading_after_lines at new) (take k rest) ≡ reading_after_lines at (take k rest)
    behind_reading k found =
        let f : IsLast (leads_dotted b) at rest k = last_found (leads_dotted b) at rest k found in
        let l : Line = f.here in
        let d : IsDotted b (reading_after_lines at f.pre) l.content =
        dotted_content b (reading_after_lines at f.pre) l.before l.after l.comment l.content f.passes in
        let cut : take k rest ≡ f.pre =
        ap₂ (λ (m : ℕ) (ls : List Line). take m ls) f.number f.was ∙ take_before f.pre (l ∷ f.post) in
        let is : at ≡ r = reading_is profile limit s path value c h in
        ap₂ (λ (x : Reading) (ls : List Line). reading_after_lines (reading_after_lines x new) ls) is cut
        ∙ same_reading r.tables own_path r.body l d.name d.value d.content f.post
        (last profile limit s path value c h).post f.pre f.was
        ∙ ap₂ (λ (x : Reading) (ls : List Line). reading_after_lines x ls) (sym is) (sym cut)

    pub dots_move : (i : ℕ) → last_line (leads_dotted b) start (lines s) ≡ Some i
        → IsLeadMoved s now b n (length new) i
    dots_move i found =
        by (last_place (leads_dotted b) pre here body rest new
        (new_there profile limit s path value c fine h (leads_dotted b) none_dotted)
        (behind_same profile limit s path value c fine h (leads_dotted b) (bodiless_dotted b)) i
        (ap (last_line (leads_dotted b) start) (sym (were profile limit s path value c fine h)) ∙ found))
      where
        number : length first ≡ n
        number = long profile limit s path value c h

        by : ((last_line (leads_dotted b) start (first ++ (new ++ rest)) ≡ Some i) × (i < length first))
            ⊎ IsBehind (leads_dotted b) first new rest i → IsLeadMoved s now b n (length new) i
        by (inl x) = record {
          number = i;
          last = ap (last_line (leads_dotted b) start) (are profile limit s path value c fine h) ∙ x.0;
          body =
              ap (λ (ls : List Line). (reading_at i ls).body) (are profile limit s path value c fine h)
              ∙ ap (λ (y : Reading). y.body)
              (reading_alike start first (new ++ rest) rest i (omega (arith, x.1)))
              ∙ ap (λ (ls : List Line). (reading_at i ls).body) (sym (were profile limit s path value c fine h));
          moves = inl (refl, omega (arith, x.1, number));
        }
        by (inr x) =
            let k : ℕ = x.number in
            let j : ℕ = length first + (length new + k) in
            record {
              number = j;
              last = ap (last_line (leads_dotted b) start) (are profile limit s path value c fine h) ∙ x.last;
              body =
                  ap (λ (y : Reading). y.body)
                  (ap (reading_at j) (are profile limit s path value c fine h)
                  ∙ reading_behind start first (new ++ rest) (length new + k) ∙ reading_behind at new rest k
                  ∙ behind_reading k x.found
                  ∙ sym (reading_behind start first rest k)
                  ∙ ap₂ reading_at (sym x.was) (sym (were profile limit s path value c fine h)));
              moves = inr (omega (arith, x.was), omega (arith, x.was, number));
            }
