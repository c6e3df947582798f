-- The line that an insert adds which is not refused, to a table that dotted keys make, where the text is not open.
--
-- The path is the table's and the keys that are new. The spot is after a keyval, so no header defines the table, and
-- the edit puts its keyval before the line after the last that leads on from the table by dots (`dotted_there`). Where
-- the text is not open, that line is ended by a newline (`not_past_last`).
--
-- Theorems: `dotted_is_added`; `dotted_boundary`: it comes between characters.
use Rattle.std.proofs.Common.{◌≡◌, ℕ, ◌-◌, suc, false, List, [], ◌++◌, take, drop, sym, ap, ◌∙◌, arith, Some}
use Rattle.std.proofs.Common.{None, Ok, refl}
use Rattle.std.specs.Prelude.{IsCharBoundary}
use Rattle.keep_syntax.specs.declared.syntax.Syntax.{Syntax}
use Rattle.keep_syntax.specs.Tree.{Value, Document}
use Rattle.keep_path.specs.NodeInfos.{NodeInfos}
use Rattle.keep_path.specs.Path.{Part, AreUtf8}
use Rattle.keep_meaning.specs.Meaning.{mentions_in}
use Rattle.keep_edit_spec.specs.DottedLines.{AddsDotted}
use Rattle.keep_edit_spec.specs.Edits.{insert, place}
use Rattle.keep_edit_spec.specs.Insertion.{is_open, put_in}
use Rattle.keep_edit_spec.specs.Look.{holder, item_number, keys_in}
use Rattle.keep_edit_spec.specs.TextChanges.{change_at}
use Rattle.keep_edit_spec.proofs.Shared.{IsDottedPlaced, IsNewPath, new_path}
use Rattle.keep_edit_plan.specs.Inserting.{IsInsertionOf, IsKeyvalSpot, lines_start, new_line_at}
use Rattle.keep_edit_plan.specs.PutLines.{keyval_end_of}
use Rattle.keep_edit_plan.specs.Reading.{limit, ProfiledText, Holds, IsTextOfTree, IsTextOfValue}
use Rattle.keep_edit_plan.specs.declared.insert.Insertion.{Insertion}
use Rattle.keep_edit_plan.specs.declared.insert.Spot.TheVariants.{AfterLine}
use Rattle.keep_edit_plan.proofs.AddedLineLaws.{not_past_last}
use Rattle.keep_edit_plan.proofs.InsertedLaws.{keyval_only, line_put}
use Rattle.keep_edit_plan.proofs.KeysLaws.{keys_utf8}
use Rattle.keep_edit_plan.proofs.LineSpots.{dotted_there}

module _ (d : ProfiledText) (syntax : Syntax) (nodes : NodeInfos) (path : List Part) (s : Document) (v : Value)
    (bytes : List ℕ) (i : Insertion)
    (holds : Holds d syntax nodes) (read : IsTextOfTree d s) (value : IsTextOfValue bytes v)
    (there : IsInsertionOf d.profile path v s (Ok i)) (utf8 : AreUtf8 path) (last : ℕ)
    (after_line : i.spot ≡ AfterLine last) where
  spot : (item_number path (mentions_in s) ≡ None)
      × IsKeyvalSpot (holder path (mentions_in s)) s i.from (AfterLine last)
  spot = keyval_only d syntax nodes path s v bytes i holds read value there utf8 (AfterLine last) after_line
      (λ n h. absurd h)

  -- after which line, and with which keys
  placed : IsDottedPlaced s path v i.from last
  placed = dotted_there d path v s read there.0 spot.0 i.from last spot.1

  -- the keys after the table
  new : IsNewPath path (mentions_in s)
  new = new_path d.profile limit (mentions_in s) path v spot.0 there.0

  -- it comes between characters
  pub dotted_boundary : (at : ℕ) → keyval_end_of s last ≡ Some at → IsCharBoundary d.text at
  dotted_boundary at at_end =
      let (given, is, put, span) =
      line_put d syntax nodes path s v bytes i holds read value there utf8 last at []
      (new_line_at s at (keys_in (drop i.from path)) v).new after_line at_end refl in
      span.starts

  pub dotted_is_added : (at : ℕ) (old line : List ℕ) → keyval_end_of s last ≡ Some at → old ≡ []
      → line ≡ old ++ (new_line_at s at (keys_in (drop i.from path)) v).new
      → false ≡ is_open (drop (lines_start s) (take at d.text))
      → AddsDotted d.profile limit s path v (change_at at (at - at) line)
  dotted_is_added at old line at_end none_before pushed closed =
      let line_is : line ≡ (new_line_at s at (keys_in (drop i.from path)) v).new =
      pushed ∙ ap (λ (t : List ℕ). t ++ (new_line_at s at (keys_in (drop i.from path)) v).new) none_before in
      let (given, is, in_place, within) =
      line_put d syntax nodes path s v bytes i holds read value there utf8 last at [] line after_line at_end line_is in
      let put : place s (insert path v) ≡ put_in at line = in_place ∙ ap (put_in at) (sym is) in
      record {
        utf8 = keys_utf8 path utf8;
        given = record { valid = value.reads.valid; obeys = value.obeys };
        allowed = there.0;
        text = new.first;
        more = new.more;
        new = new.whole;
        bare = placed.bare;
        number = placed.last;
        last = placed.found;
        closed = not_past_last d s path v (suc placed.last) at placed.first placed.more line read placed.changes
            (line_is ∙ ap (λ (l : List (List ℕ)). (new_line_at s at l v).new) placed.texts) put closed;
        adds = omega arith;
        is = put;
      }
