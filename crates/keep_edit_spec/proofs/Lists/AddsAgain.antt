-- An insert that adds a line adds the same one in another document, if its holder stays, it is not refused there, and
-- the holder's body ends where the change moves it.
--
-- It adds its line at that end, where the line begins (`place_now`). Where the document says the same but at another
-- path and under it, as without that path's own line, or its table, the holder is a node still, since a body of it ends
-- (NewHolder). So it is the holder, and the insert is not refused (SaidBeside).
--
-- Theorems: `adds_there`; `adds_beside_said`: in a document that says the same but at another path and under it;
-- `adds_again`: where only a run there is gone.
use Rattle.std.proofs.Common.{◌≡◌, ℕ, suc, ◌<◌, ◌≤◌, true, List, ◌∷◌, ◌++◌, length, map, take, sym, ap, ◌∙◌}
use Rattle.std.proofs.Common.{length-append, Some, None, ◌⊎◌}
use Rattle.keep_types.specs.declared.leaf.Profile.{Profile}
use Rattle.keep_syntax.specs.Tree.{Written, Value, Document, bom_leaves, ended_leaves, keyval, text_of, value_depth}
use Rattle.keep_path.specs.Path.{Part, key, strip}
use Rattle.keep_meaning.specs.Meaning.{mentions_in}
use Rattle.keep_meaning.specs.Nodes.{is_node}
use Rattle.keep_edit_spec.specs.AddedLines.{AddsLine, AddsLineStill}
use Rattle.keep_edit_spec.specs.ClearedLines.{line_start}
use Rattle.keep_edit_spec.specs.Edits.{end_of, insert, name_with, place}
use Rattle.keep_edit_spec.specs.Insertion.{put_in}
use Rattle.keep_edit_spec.specs.Lines.{ended_text, new_line, newline_of}
use Rattle.keep_edit_spec.specs.Look.{holder}
use Rattle.keep_edit_spec.specs.Refusals.{refusal}
use Rattle.keep_edit_spec.specs.TextChanges.{TextChange, moved, moved_by}
use Rattle.keep_edit_spec.proofs.Common.Cuts.{IsCut}
use Rattle.keep_edit_spec.proofs.Lists.NewHolder.{body_node}
use Rattle.keep_edit_spec.proofs.Lists.NewPaths.{InsertsKeys, line_keys}
use Rattle.keep_edit_spec.proofs.Lists.Places.{item_none, line_is, place_is}
use Rattle.keep_edit_spec.proofs.Lists.SaidBeside.{IsSaidBeside, holder_beside, refusal_beside, said_of_cut}

module _ (profile : Profile) (limit : ℕ) (s now : Document) (other : List Part) (more : Value) (m : TextChange)
    (k : AddsLine profile limit s other more m) (j : ℕ) (ends : end_of now (holder other (mentions_in s)) ≡ Some j)
    (closed : j ≤ length now.ended) (c : TextChange) (at : line_start now j ≡ moved_by c m.at)
    (same : newline_of now ≡ newline_of s) (holds : holder other (mentions_in now) ≡ holder other (mentions_in s)) where
  new_now : other ≡ holder other (mentions_in now) ++ map key (k.text ∷ k.more)
  new_now = k.new ∙ ap (λ (q : List Part). q ++ map key (k.text ∷ k.more)) (sym holds)

  ends_now : end_of now (holder other (mentions_in now)) ≡ Some j
  ends_now = ap (end_of now) holds ∙ ends

  place_now : place now (insert other more) ≡ put_in (moved_by c m.at) m.new
  place_now =
      let bom : List ℕ = text_of (bom_leaves now.bom) in
      let from : ℕ = length (bom ++ ended_text (take j now.ended)) in
      place_is now other more k.text k.more j
      (item_none other (holder other (mentions_in s)) k.text k.more k.new (mentions_in now)) new_now ends_now closed
      ∙ ap (λ (w : Written).
      put_in from (text_of (ended_leaves (new_line w (keyval (name_with (k.text ∷ k.more)) more))))) same
      ∙ ap (put_in from) (sym (line_is profile limit s other more m k))
      ∙ ap (λ (i : ℕ). put_in i m.new) (length-append bom (ended_text (take j now.ended)) ∙ at)

  pub adds_there : refusal profile limit now (insert other more) ≡ None → (0 < j) ⊎ (value_depth more ≡ 0)
      → AddsLineStill profile limit s now other more (moved c m)
  adds_there allowed newline = (
    record {
      utf8 = k.utf8;
      given = k.given;
      allowed = allowed;
      text = k.text;
      more = k.more;
      new = new_now;
      number = j;
      ends = ends_now;
      closed = closed;
      newline = newline;
      adds = k.adds;
      is = place_now;
    },
    ap (λ (q : List Part). take (suc (length q)) other) holds,
  )

-- ---- in a document that says the same but at a zone's path and under it

pub adds_beside_said : (profile : Profile) (limit : ℕ) (s : Document) (zone : List Part) (now : Document)
    → IsSaidBeside zone (mentions_in s) (mentions_in now) → (other : List Part) (more : Value) (m : TextChange)
    → AddsLine profile limit s other more m → strip zone other ≡ None → (j : ℕ)
    → end_of now (holder other (mentions_in s)) ≡ Some j → j ≤ length now.ended → (c : TextChange)
    → line_start now j ≡ moved_by c m.at → newline_of now ≡ newline_of s → (0 < j) ⊎ (value_depth more ≡ 0)
    → AddsLineStill profile limit s now other more (moved c m)
adds_beside_said profile limit s zone now said other more m k clear j ends closed c at same newline =
    let its : InsertsKeys profile limit s other more = line_keys profile limit s other more m k in
    let node : is_node (holder other (mentions_in s)) (mentions_in now) ≡ true =
    body_node now (holder other (mentions_in s)) j ends in
    adds_there profile limit s now other more m k j ends closed c at same
    (holder_beside profile limit s zone now said other more its clear node)
    (refusal_beside profile limit s zone now said other more its clear node) newline

-- where only a run of mentions at that path and under it is gone, and on the way there
pub adds_again : (profile : Profile) (limit : ℕ) (s : Document) (path : List Part) (now : Document)
    → IsCut path (mentions_in s) (mentions_in now) → (other : List Part) (more : Value) (m : TextChange)
    → AddsLine profile limit s other more m → strip path other ≡ None → (j : ℕ)
    → end_of now (holder other (mentions_in s)) ≡ Some j → j ≤ length now.ended → (c : TextChange)
    → line_start now j ≡ moved_by c m.at → newline_of now ≡ newline_of s → (0 < j) ⊎ (value_depth more ≡ 0)
    → AddsLineStill profile limit s now other more (moved c m)
adds_again profile limit s path now cut other more m k clear j ends closed c at same newline =
    adds_beside_said profile limit s path now (said_of_cut path (mentions_in s) (mentions_in now) cut) other more m k
    clear j ends closed c at same newline
