-- What an insert writes that adds a line to a table which dotted keys make.
--
-- It puts one keyval in right after the last line whose key leads through the holder. There the reading is in that
-- line's body, and the key is what is left of the path after it: the keys on the way to the holder (`on_way`), which
-- that line has, too, and then the new ones. A line comes before it, so the document's newline stays.
--
-- Theorems: `whole`, `written`, `means`, `no_item`; `changed`, `puts`, `at_is`, `line_is`, `lines_now`.
use Rattle.std.proofs.Common.{◌≡◌, ℕ, suc, ◌+◌, List, [], ◌∷◌, ◌++◌, length, map, take, drop, refl, sym, ap}
use Rattle.std.proofs.Common.{◌∙◌, append_assoc, length-append, arith, None, inr}
use Rattle.std.proofs.lemmas.List.{map-append}
use Rattle.keep_types.specs.declared.leaf.Profile.{Profile}
use Rattle.keep_syntax.specs.Tree.{Value, Ended, Document, bom_leaves, ended_leaves, keyval, text_of}
use Rattle.keep_path.specs.Path.{Part, key}
use Rattle.keep_meaning.specs.Marks.{Mention}
use Rattle.keep_meaning.specs.Meaning.{keys_of, lines, mentions_in}
use Rattle.keep_edit_spec.specs.Changed.{Place}
use Rattle.keep_edit_spec.specs.DottedLines.{AddsDotted}
use Rattle.keep_edit_spec.specs.Edits.{at_line, change, edited_document, insert, name_with, place}
use Rattle.keep_edit_spec.specs.Insertion.{put_in}
use Rattle.keep_edit_spec.specs.Laws.{IsEditable}
use Rattle.keep_edit_spec.specs.Lines.{ended_text, new_line, newline_of, reading_at}
use Rattle.keep_edit_spec.specs.Look.{holder, item_number, keys_in}
use Rattle.keep_edit_spec.specs.TextChanges.{TextChange}
use Rattle.keep_edit_spec.proofs.Common.NewLines.{IsKeyText, key_means, newline_is}
use Rattle.keep_edit_spec.proofs.Common.Runs.{AllOf}
use Rattle.keep_edit_spec.proofs.Insert.InsertDotted.{IsDottedLine, change_there, dotted_line}
use Rattle.keep_edit_spec.proofs.Insert.InsertLine.{later_keys}
use Rattle.keep_edit_spec.proofs.Insert.NewPath.{drop_prefix_parts, keys_of_map}
use Rattle.keep_edit_spec.proofs.Rename.KeyTexts.{key_texts}
use Rattle.keep_edit_spec.proofs.Lists.BodyEnds.{lines_put}
use Rattle.keep_edit_spec.proofs.Lists.Places.{item_none, newline_by, put_document, put_place, width, with_line_before}
use Rattle.keep_edit_spec.proofs.Lists.PutsKeyval.{PutsKeyval}

module _ (profile : Profile) (limit : ℕ) (s : Document) (path : List Part) (value : Value) (c : TextChange)
    (h : AddsDotted profile limit s path value c) where
  abbrev ms : List Mention
  ms = mentions_in s

  abbrev a : List Part
  a = holder path ms

  -- the number of the new line
  abbrev pub n : ℕ
  n = suc h.number

  abbrev pub body : List Part
  body = (reading_at h.number (lines s)).body

  pub before : IsDottedLine s a h.number
  before = dotted_line s a h.number h.last

  -- ---- its key

  abbrev pub on_way : List (List ℕ)
  on_way = before.first ∷ before.prefix

  abbrev pub keys : List (List ℕ)
  keys = before.first ∷ (before.prefix ++ h.text ∷ h.more)

  pub whole : path ≡ body ++ map key keys
  whole =
      h.new ∙ ap (λ (p : List Part). p ++ map key (h.text ∷ h.more)) before.whole
      ∙ append_assoc body (map key on_way) (map key (h.text ∷ h.more))
      ∙ ap (λ (p : List Part). body ++ p) (sym (map-append key on_way (h.text ∷ h.more)))

  rest : drop (length a) path ≡ map key (h.text ∷ h.more)
  rest = ap (drop (length a)) h.new ∙ drop_prefix_parts a (map key (h.text ∷ h.more))

  pub written : keys_in (drop (length body) (a ++ drop (length a) path)) ≡ keys
  written =
      ap (λ (p : List Part). keys_in (drop (length body) (a ++ p))) rest
      ∙ ap (λ (p : List Part). keys_in (drop (length body) p)) (sym h.new ∙ whole)
      ∙ ap keys_in (drop_prefix_parts body (map key keys)) ∙ keys_of_map keys

  pub means : keys_of (name_with keys).key ≡ keys
  means =
      let texts : AllOf (IsKeyText profile) keys =
      later_keys profile body path keys whole (key_texts profile (keys_in path) h.utf8) in
      key_means profile before.first (before.prefix ++ h.text ∷ h.more) texts

  pub no_item : (ns : List Mention) → item_number path ns ≡ None
  no_item ns = item_none path a h.text h.more h.new ns

  -- ---- the line

  abbrev pub x : Ended
  x = new_line (newline_of s) (keyval (name_with keys) value)

  pub changed : change s (insert path value) ≡ at_line s n (keyval (name_with keys) value ∷ [])
  changed =
      change_there s path value h.number (no_item ms) h.bare h.last
      ∙ ap (λ (ks : List (List ℕ)). at_line s n (keyval (name_with ks) value ∷ [])) written

  edited_is : edited_document s (insert path value) ≡ with_line_before n x s
  edited_is = put_document s (insert path value) (name_with keys) value n changed h.closed

  placed_at : place s (insert path value)
      ≡ put_in (length (text_of (bom_leaves s.bom) ++ ended_text (take n s.ended))) (text_of (ended_leaves x))
  placed_at = put_place s (insert path value) (name_with keys) value n changed h.closed

  pub at_is : c.at ≡ length (text_of (bom_leaves s.bom)) + width (take n s.ended)
  at_is =
      ap (λ (p : Place). p.start) (sym h.is ∙ placed_at)
      ∙ length-append (text_of (bom_leaves s.bom)) (ended_text (take n s.ended))

  pub line_is : c.new ≡ text_of (ended_leaves x)
  line_is = ap (λ (p : Place). p.new) (sym h.is ∙ placed_at)

  newline_stays : IsEditable profile limit s → newline_of (edited_document s (insert path value)) ≡ newline_of s
  newline_stays fine =
      ap newline_of edited_is
      ∙ newline_by profile s.bom s.last x n s.ended fine.valid.ended h.closed refl
      (newline_is profile s fine.valid).kind (inr (omega arith))

  pub puts : IsEditable profile limit s
      → PutsKeyval s (edited_document s (insert path value)) n (name_with keys) value c
  puts fine = record {
    is = edited_is;
    few = h.closed;
    adds = h.adds;
    line = line_is;
    at = at_is;
    newline = newline_stays fine;
  }

  pub lines_now : lines (edited_document s (insert path value)) ≡ take n (lines s) ++ x.line ∷ drop n (lines s)
  lines_now = ap lines edited_is ∙ lines_put n x s.ended s.last h.closed
