-- What an insert adds which is not refused, and which brings the header of its table, where the text is not open.
--
-- The path is the table's and the keys that are new. The spot is a new section, so no header defines the table, no
-- dotted keys make it, and the edit puts its lines after the body of the last header that goes through the table
-- (`section_placed_there`). Where the text is not open, the line before is ended by a newline (`not_past`).
--
-- Theorems: `header_is_brought`; `line_is_brought`: its line alone; `brought_boundary`: it comes between characters.
use Rattle.std.proofs.Common.{◌≡◌, ℕ, ◌-◌, ◌≤◌, false, List, [], ◌∷◌, ◌++◌, length, take, drop, refl, sym, ap, ◌∙◌}
use Rattle.std.proofs.Common.{arith, Some, None, Ok}
use Rattle.std.specs.Prelude.{Bool, IsCharBoundary, if◌then◌else◌}
use Rattle.keep_syntax.specs.declared.syntax.Syntax.{Syntax}
use Rattle.keep_syntax.specs.Tree.{Value, Document, text}
use Rattle.keep_path.specs.NodeInfos.{NodeInfos}
use Rattle.keep_path.specs.Path.{Part, AreUtf8}
use Rattle.keep_meaning.specs.Meaning.{lines, mentions_in}
use Rattle.keep_edit_spec.specs.BroughtHeaders.{BringsHeader, BringsLine}
use Rattle.keep_edit_spec.specs.Edits.{at_line, insert, place}
use Rattle.keep_edit_spec.specs.Insertion.{is_open, keyed_text, missing_newline, put_in}
use Rattle.keep_edit_spec.specs.Lines.{body_end, newline_of}
use Rattle.keep_edit_spec.specs.Look.{holder, item_number, keys_in}
use Rattle.keep_edit_spec.specs.TextChanges.{change_at}
use Rattle.keep_edit_spec.proofs.Shared.{IsNewPath, IsThroughPlaced, holder_prefix, new_path, new_section}
use Rattle.keep_edit_spec.proofs.Shared.{new_section_text}
use Rattle.keep_edit_plan.specs.Inserting.{IsInsertionOf, IsKeyvalSpot, lines_start, new_line_at}
use Rattle.keep_edit_plan.specs.PutLines.{body_end_of, new_section_at}
use Rattle.keep_edit_plan.specs.Reading.{limit, ProfiledText, Holds, IsTextOfTree, IsTextOfValue}
use Rattle.keep_edit_plan.specs.declared.insert.Insertion.{Insertion}
use Rattle.keep_edit_plan.specs.declared.insert.Spot.TheVariants.{NewSection}
use Rattle.keep_edit_plan.proofs.AddedLineLaws.{not_past}
use Rattle.keep_edit_plan.proofs.InsertedLaws.{keyval_only, section_put}
use Rattle.keep_edit_plan.proofs.KeysLaws.{keys_utf8}
use Rattle.keep_edit_plan.proofs.LineSpots.{section_placed_there}

module _ (d : ProfiledText) (syntax : Syntax) (nodes : NodeInfos) (path : List Part) (s : Document) (v : Value)
    (bytes : List ℕ) (i : Insertion)
    (holds : Holds d syntax nodes) (read : IsTextOfTree d s) (value : IsTextOfValue bytes v)
    (there : IsInsertionOf d.profile path v s (Ok i)) (utf8 : AreUtf8 path) (header : ℕ)
    (in_section : i.spot ≡ NewSection header) where
  abbrev a : List Part
  a = holder path (mentions_in s)

  spot : (item_number path (mentions_in s) ≡ None) × IsKeyvalSpot a s i.from (NewSection header)
  spot = keyval_only d syntax nodes path s v bytes i holds read value there utf8 (NewSection header) in_section
      (λ n h. absurd h)

  -- after which header's body, and which lines
  placed : IsThroughPlaced s path v header
  placed = section_placed_there d path v s read there.0 spot.0 i.from header spot.1

  -- the keys after the table
  new : IsNewPath path (mentions_in s)
  new = new_path d.profile limit (mentions_in s) path v spot.0 there.0

  -- the keys of the header, and those of the line below it
  table_keys : keys_in (take i.from path) ≡ keys_in a
  table_keys =
      ap (λ (n : ℕ). keys_in (take n path)) spot.1.1
      ∙ ap keys_in (holder_prefix d.profile limit s path v read.reads.valid spot.0 there.0)

  line_keys : keys_in (drop i.from path) ≡ new.first ∷ new.more
  line_keys = ap (λ (n : ℕ). keys_in (drop n path)) spot.1.1 ∙ new.keys

  -- it comes between characters
  pub brought_boundary : (at : ℕ) → at ≡ body_end_of s (Some header) → IsCharBoundary d.text at
  brought_boundary at at_end =
      let (given, is, put, span) =
      section_put d syntax nodes path s v bytes i holds read value there utf8 header at []
      (new_section_at s at (keys_in (take i.from path)) (keys_in (drop i.from path)) v).new in_section at_end refl in
      span.starts

  -- Where the text is not open, the line is ended after which they come.
  closed_before : (at : ℕ) (section : List ℕ)
      → section ≡ (new_section_at s at (keys_in (take i.from path)) (keys_in (drop i.from path)) v).new
      → place s (insert path v) ≡ put_in at section → false ≡ is_open (drop (lines_start s) (take at d.text))
      → body_end placed.last (lines s) ≤ length s.ended
  closed_before at section is put closed =
      let n : ℕ = body_end placed.last (lines s) in
      not_past d s path v n at (new_section (keys_in a) (new.first ∷ new.more) v) section read
      (placed.changes ∙ ap (λ (l : List (List ℕ)). at_line s n (new_section (keys_in a) l v)) new.keys)
      (is ∙ ap (λ (t : List (List ℕ)). (new_section_at s at t (keys_in (drop i.from path)) v).new) table_keys
      ∙ ap (λ (l : List (List ℕ)). (new_section_at s at (keys_in a) l v).new) line_keys
      ∙ ap (λ (t : List ℕ). missing_newline (text s) (newline_of s).text (lines_start s) at ++ t)
      (sym (new_section_text (newline_of s) (keys_in a) new.first new.more v))) put closed

  pub header_is_brought : (at : ℕ) (old section : List ℕ) → at ≡ body_end_of s (Some header) → old ≡ []
      → section ≡ old ++ (new_section_at s at (keys_in (take i.from path)) (keys_in (drop i.from path)) v).new
      → false ≡ is_open (drop (lines_start s) (take at d.text))
      → BringsHeader d.profile limit s path v (change_at at (at - at) section)
  header_is_brought at old section at_end none_before pushed closed =
      let section_is : section
      ≡ (new_section_at s at (keys_in (take i.from path)) (keys_in (drop i.from path)) v).new =
      pushed
      ∙ ap (λ (t : List ℕ).
      t ++ (new_section_at s at (keys_in (take i.from path)) (keys_in (drop i.from path)) v).new) none_before in
      let (given, is, in_place, within) =
      section_put d syntax nodes path s v bytes i holds read value there utf8 header at [] section in_section at_end
      section_is in
      let put : place s (insert path v) ≡ put_in at section = in_place ∙ ap (put_in at) (sym is) in
      record {
        utf8 = keys_utf8 path utf8;
        given = record { valid = value.reads.valid; obeys = value.obeys };
        allowed = there.0;
        text = new.first;
        more = new.more;
        new = new.whole;
        bare = placed.bare;
        no_dots = placed.no_dots;
        number = placed.last;
        last = placed.found;
        closed = closed_before at section section_is put closed;
        adds = omega arith;
        is = put;
      }

  -- its line alone, where the line before is ended
  pub line_is_brought : (at : ℕ) (old line : List ℕ) → at ≡ body_end_of s (Some header) → old ≡ []
      → line ≡ old ++ (new_line_at s at (keys_in (drop i.from path)) v).new
      → false ≡ is_open (drop (lines_start s) (take at d.text))
      → BringsLine d.profile limit s path v (change_at at (at - at) line)
  unfolding header_is_brought
  line_is_brought at old line at_end none_before pushed closed =
      let section : List ℕ = (new_section_at s at (keys_in (take i.from path)) (keys_in (drop i.from path)) v).new in
      let ended : is_open (drop (lines_start s) (take at (text s))) ≡ false =
      ap (λ (t : List ℕ). is_open (drop (lines_start s) (take at t))) (sym read.reads.spelled) ∙ sym closed in
      let missing : missing_newline (text s) (newline_of s).text (lines_start s) at ≡ [] =
      ap (λ (b : Bool). if b then (newline_of s).text else []) ended in
      record {
        whole = change_at at (at - at) section;
        brings = header_is_brought at [] section at_end refl refl closed;
        at = refl;
        adds = omega arith;
        line = pushed
            ∙ ap (λ (t : List ℕ). t ++ (new_line_at s at (keys_in (drop i.from path)) v).new) none_before
            ∙ ap (λ (t : List ℕ). t ++ (keyed_text (keys_in (drop i.from path)) v ++ (newline_of s).text)) missing
            ∙ ap (λ (l : List (List ℕ)). keyed_text l v ++ (newline_of s).text) line_keys;
      }
