-- An insert of one key at the end of a body adds a line.
--
-- Theorem: `insert_adds_line`; and `bare_added` where something is in the value, for the insert of the value without
-- that.
use Rattle.std.proofs.Common.{◌≡◌, ℕ, suc, ◌≤◌, Bool, false, ◌||◌, List, [], ◌∷◌, ◌++◌, length, take, drop, refl}
use Rattle.std.proofs.Common.{sym, ap, ap₂, subst, ◌∙◌, Some, None}
use Rattle.std.specs.Prelude.{IsUtf8}
use Rattle.std.specs.List.{AllByRecursion, list_any}
use Rattle.std.proofs.lemmas.List.{take-append-drop}
use Rattle.keep_types.specs.declared.leaf.Profile.{Profile}
use Rattle.keep_syntax.specs.Tree.{Entries, Value, Line, Document, keyval}
use Rattle.keep_path.specs.Path.{Part, key}
use Rattle.keep_meaning.specs.Marks as marks
use Rattle.keep_meaning.specs.Marks.{start}
use Rattle.keep_meaning.specs.Meaning.{body_fact, keys_of, lines, mentions_in}
use Rattle.keep_meaning.specs.Nodes.{is_at, is_node, is_root}
use Rattle.keep_edit_spec.specs.Edits.{edited_document, end_of, insert, name_with}
use Rattle.keep_edit_spec.specs.KeyvalLines.{HasLineAt, InsertAddsLine, bare_value}
use Rattle.keep_edit_spec.specs.Lines.{new_line, newline_of, put_lines}
use Rattle.keep_edit_spec.specs.Look.{holder, item_number, keys_in}
use Rattle.keep_edit_spec.specs.Refusals.{refusal}
use Rattle.keep_edit_spec.proofs.Common.BodyEnd.{IsBodyEnd}
use Rattle.keep_edit_spec.proofs.Common.LineStatements.{reading_statements, statements-append, statements_of}
use Rattle.keep_edit_spec.proofs.Common.NewLines.{IsKeyText}
use Rattle.keep_edit_spec.proofs.Common.Runs.{AllOf}
use Rattle.keep_edit_spec.proofs.Common.SetDocument.{page_lines}
use Rattle.keep_edit_spec.proofs.Insert.KeysAtEnd as keys
use Rattle.keep_edit_spec.proofs.Insert.LineAtEnd as line

-- The path is new, and in the document are the lines of the body that it goes into, up to line n.
module _ (profile : Profile) (limit : ℕ) (s : Document) (path : List Part) (text : List ℕ) (value : Value) (n : ℕ)
    (utf8 : AllByRecursion IsUtf8 (keys_in path)) (allowed : refusal profile limit s (insert path value) ≡ None)
    (one : path ≡ holder path (mentions_in s) ++ key text ∷ [])
    (ends : end_of s (holder path (mentions_in s)) ≡ Some n) where
  abbrev a : List Part
  a = holder path (mentions_in s)

  pub no_item : item_number path (mentions_in s) ≡ None
  no_item = keys.no_item profile limit s path text [] value n utf8 allowed one ends

  pub rest : drop (length a) path ≡ key text ∷ []
  rest = keys.rest profile limit s path text [] value n utf8 allowed one ends

  pub texts : AllOf (IsKeyText profile) (text ∷ [])
  texts = keys.texts profile limit s path text [] value n utf8 allowed one ends

  pub means : keys_of (name_with (text ∷ [])).key ≡ text ∷ []
  means = keys.means profile limit s path text [] value n utf8 allowed one ends

  pub end : IsBodyEnd s a n
  end = keys.end profile limit s path text [] value n utf8 allowed one ends

  pub unsaid : list_any (is_at (a ++ key text ∷ [])) (mentions_in s) ≡ false
  unsaid = keys.unsaid profile limit s path text [] value n utf8 allowed one ends

  fresh : is_node path (mentions_in s) ≡ false
  fresh = ap₂ (λ (b c : Bool). b || c) (ap is_root one ∙ not_root a)
      (ap (λ (p : List Part). list_any (is_at p) (mentions_in s)) one ∙ unsaid)
    where
      not_root : (p : List Part) → is_root (p ++ key text ∷ []) ≡ false
      not_root [] = refl
      not_root (x ∷ p) = refl

  abbrev before : List Line
  before = take n (lines s)

  abbrev after : List Line
  after = drop n (lines s)

  -- the new line is put among the lines
  pub put : (v : Value) → lines (edited_document s (insert path v))
      ≡ page_lines (put_lines n (new_line (newline_of s) (keyval (name_with (text ∷ [])) v) ∷ []) (newline_of s) s.ended
      s.last).to
  put v = line.put profile limit s path text [] value n utf8 allowed one ends v

  pub few : n ≤ suc (length s.ended)
  few = line.few profile limit s path text [] value n utf8 allowed one ends

  -- of a value that may be put there, the line alone
  pub bare_added : HasLineAt s (edited_document s (insert path (bare_value value))) path (body_fact value.body) before
  bare_added = record {
    line = record {
      before = statements_of before;
      after = statements_of after;
      text = text;
      fact = body_fact value.body;
      old = ap statements_of (sym (take-append-drop n (lines s))) ∙ statements-append before after;
      new = line.edited profile limit s path text [] value n utf8 allowed one ends;
    };
    after = refl;
    place = ap (λ (r : marks.Reading). r.body ++ key text ∷ []) (reading_statements start before)
        ∙ ap (λ (p : List Part). p ++ key text ∷ []) end.body ∙ sym one;
    gives = refl;
    fresh = fresh;
  }

pub insert_adds_line : InsertAddsLine
insert_adds_line profile limit s path text value n utf8 allowed one ends empty =
    let with_entries : Entries → Document =
    λ es. edited_document s (insert path (record { body = value.body; nested = es })) in
    subst (λ (es : Entries). HasLineAt s (with_entries es) path (body_fact value.body) (take n (lines s))) (sym empty)
    (bare_added profile limit s path text value n utf8 allowed one ends)
