-- An insert in brackets is an edit inside the value of a line.
--
-- The spot tells which: an item's is put in at its path (`item_nested`). A key's is in braces where the holder, or the
-- table that dots continue from to it, is a value, so no line writes it (`braced_nested`).
--
-- Theorem: `insert_is_inside`.
use Rattle.std.proofs.Common.{◌≡◌, ℕ, List, [], ◌++◌, length, take, drop, refl, sym, Option, Some, None, Ok, inl, inr}
use Rattle.std.proofs.lemmas.List.{append-nil, take-append-drop}
use Rattle.keep_syntax.specs.declared.syntax.Syntax.{Syntax}
use Rattle.keep_syntax.specs.Tree.{Value, Document}
use Rattle.keep_types.specs.declared.node.Origin.TheVariants as origin
use Rattle.keep_path.specs.NodeInfos.{NodeInfos}
use Rattle.keep_path.specs.Path.{Part, AreUtf8}
use Rattle.keep_meaning.specs.Counts.{numbered_in}
use Rattle.keep_meaning.specs.Meaning.{mentions_in}
use Rattle.keep_meaning.specs.Nodes.{numbered_at}
use Rattle.keep_edit_spec.specs.Edits.{insert, name_with}
use Rattle.keep_edit_spec.specs.Look.{holder, item_number}
use Rattle.keep_edit_spec.specs.Values.{put_item, put_named}
use Rattle.keep_edit_spec.proofs.Shared.{braced_nested, item_nested}
use Rattle.keep_edit_plan.specs.Inserting.{IsInsertionOf, IsItemSpot, IsKeyvalSpot, origin_of}
use Rattle.keep_edit_plan.specs.InsideValues.{IsInside}
use Rattle.keep_edit_plan.specs.Reading.{ProfiledText, Holds, IsTextOfTree, IsTextOfValue}
use Rattle.keep_edit_plan.specs.declared.insert.Insertion.{Insertion}
use Rattle.keep_edit_plan.specs.declared.insert.Spot.{Spot}
use Rattle.keep_edit_plan.specs.declared.insert.Spot.TheVariants as spot
use Rattle.keep_edit_plan.proofs.BracketPlaces.{IsInBrackets}
use Rattle.keep_edit_plan.proofs.FoundLaws.{origin_of_value}
use Rattle.keep_edit_plan.proofs.InsertedLaws.{insert_law}
use Rattle.keep_edit_plan.proofs.InsideLaws.{inside_by_law}

module _ (d : ProfiledText) (syntax : Syntax) (index : NodeInfos) (path : List Part) (s : Document) (v : Value)
    (bytes : List ℕ) (i : Insertion) (holds : Holds d syntax index) (read : IsTextOfTree d s)
    (value : IsTextOfValue bytes v)
    (there : IsInsertionOf d.profile path v s (Ok i)) (utf8 : AreUtf8 path) (in_brackets : IsInBrackets i.spot) where
  abbrev a : List Part
  a = holder path (mentions_in s)

  abbrev SpotBy : Option ℕ → Type 0
  SpotBy o = elim o [
    | Some n ↦ (i.from ≡ length path) × IsItemSpot path n s i.spot
    | None ↦ IsKeyvalSpot a s i.from i.spot
  ]

  -- at or below a value
  braced : item_number path (mentions_in s) ≡ None → (at dots : List Part) (b : ℕ) → a ≡ at ++ dots
      → origin_of at s ≡ origin.Value b → IsInside path s (insert path v)
  braced none at dots b whole of_value =
      inside_by_law d path s (insert path v) (insert_law d syntax index path s v bytes i holds read value there utf8)
      (put_named name_with (length (drop (length a) path)) v)
      (braced_nested s path v at dots b read.obeys none whole
      (origin_of_value (numbered_at at (numbered_in s)) b of_value))

  keyval_inside : item_number path (mentions_in s) ≡ None → (at : Spot) → IsInBrackets at → IsKeyvalSpot a s i.from at
      → IsInside path s (insert path v)
  keyval_inside none (spot.InEmpty b) brackets (of_value, base, e) = braced none a [] b (sym (append-nil a)) of_value
  keyval_inside none (spot.AfterEntry w) brackets (inl (b, of_value, base, e)) =
      braced none a [] b (sym (append-nil a)) of_value
  keyval_inside none (spot.AfterEntry w) brackets (inr (b, dotted, base, of_value)) =
      braced none (take i.from a) (drop i.from a) b (sym (take-append-drop i.from a)) of_value
  keyval_inside none (spot.BeforeItem w) brackets h = absurd h
  keyval_inside none (spot.AfterBody o) brackets h = absurd brackets
  keyval_inside none (spot.AfterLine w) brackets h = absurd brackets
  keyval_inside none (spot.NewSection w) brackets h = absurd brackets

  pub insert_is_inside : IsInside path s (insert path v)
  insert_is_inside = by (item_number path (mentions_in s)) refl there.1
    where
      by : (o : Option ℕ) → item_number path (mentions_in s) ≡ o → SpotBy o → IsInside path s (insert path v)
      by (Some n) item h =
          inside_by_law d path s (insert path v)
          (insert_law d syntax index path s v bytes i holds read value there utf8) (put_item v)
          (item_nested s path v n item)
      by None none h = keyval_inside none i.spot in_brackets h
