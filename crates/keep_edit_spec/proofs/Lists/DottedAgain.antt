-- An insert that adds a line to a table which dotted keys make adds the same one in another document, if its holder
-- stays, it is not refused there, and the last line that leads through the holder is in the same body.
--
-- Its key goes by what is left of the path after that body, as before (`changed_now`). So the same bytes come where the
-- next line begins (`place_now`). Where the document says the same but at another path and under it, the holder is a
-- node still, since that line leads through it (NewHolder). So it is the holder, and the insert is not refused
-- (SaidBeside).
--
-- Theorems: `dotted_again`; `dotted_said`: in a document that says the same but at another path and under it;
-- `dotted_cut`: where only a run there is gone.
use Rattle.std.proofs.Common.{◌≡◌, ℕ, suc, ◌≤◌, true, List, [], ◌∷◌, ◌++◌, length, map, take, drop, sym, ap, ◌∙◌}
use Rattle.std.proofs.Common.{length-append, Some, None}
use Rattle.keep_types.specs.declared.leaf.Profile.{Profile}
use Rattle.keep_syntax.specs.Tree.{Written, Value, Document, bom_leaves, ended_leaves, keyval, text_of}
use Rattle.keep_path.specs.Path.{Part, key, strip}
use Rattle.keep_meaning.specs.Marks.{start}
use Rattle.keep_meaning.specs.Meaning.{lines, mentions_in}
use Rattle.keep_meaning.specs.Nodes.{is_node}
use Rattle.keep_edit_spec.specs.ClearedLines.{line_start}
use Rattle.keep_edit_spec.specs.DottedLines.{AddsDotted, StillAdds}
use Rattle.keep_edit_spec.specs.Edits.{at_line, change, end_of, insert, name_with, place}
use Rattle.keep_edit_spec.specs.Insertion.{put_in}
use Rattle.keep_edit_spec.specs.Lines.{ended_text, last_line, leads_dotted, new_line, newline_of, reading_at}
use Rattle.keep_edit_spec.specs.Look.{holder, keys_in}
use Rattle.keep_edit_spec.specs.Refusals.{refusal}
use Rattle.keep_edit_spec.specs.TextChanges.{TextChange, moved, moved_by}
use Rattle.keep_edit_spec.proofs.Common.Cuts.{IsCut}
use Rattle.keep_edit_spec.proofs.Insert.InsertDotted.{change_there}
use Rattle.keep_edit_spec.proofs.Lists.DottedLine as line
use Rattle.keep_edit_spec.proofs.Lists.DottedLine.{line_is, no_item, written}
use Rattle.keep_edit_spec.proofs.Lists.NewHolder.{lead_node}
use Rattle.keep_edit_spec.proofs.Lists.NewPaths.{InsertsKeys, dotted_keys}
use Rattle.keep_edit_spec.proofs.Lists.Places.{put_place}
use Rattle.keep_edit_spec.proofs.Lists.SaidBeside.{IsSaidBeside, holder_beside, refusal_beside, said_of_cut}

-- The last line that leads through the holder, in another document: no header begins a body of the holder there, the
-- line is in the same body as the one before, a newline ends it, and the next line begins where the change moves it.
pub record IsLastThere (s : Document) (other : List Part) (number : ℕ) (now : Document) (j : ℕ) : Type 0 where
  pub bare : end_of now (holder other (mentions_in s)) ≡ None
  pub last : last_line (leads_dotted (holder other (mentions_in s))) start (lines now) ≡ Some j
  pub body : (reading_at j (lines now)).body ≡ (reading_at number (lines s)).body
  pub closed : suc j ≤ length now.ended

module _ (profile : Profile) (limit : ℕ) (s now : Document) (other : List Part) (more : Value) (c d : TextChange)
    (k : AddsDotted profile limit s other more d) (j : ℕ) (there : IsLastThere s other k.number now j)
    (at : line_start now (suc j) ≡ moved_by c d.at) (newline : newline_of now ≡ newline_of s) where
  abbrev a : List Part
  a = holder other (mentions_in s)

  module _ (holds : holder other (mentions_in now) ≡ a)
      (allowed : refusal profile limit now (insert other more) ≡ None) where
    bare_now : end_of now (holder other (mentions_in now)) ≡ None
    bare_now = ap (end_of now) holds ∙ there.bare

    last_now : last_line (leads_dotted (holder other (mentions_in now))) start (lines now) ≡ Some j
    last_now = ap (λ (q : List Part). last_line (leads_dotted q) start (lines now)) holds ∙ there.last

    -- ---- the line, and its place

    abbrev keys : List (List ℕ)
    keys = line.keys profile limit s other more d k

    same_keys : keys_in (drop (length (reading_at j (lines now)).body)
        (holder other (mentions_in now) ++ drop (length (holder other (mentions_in now))) other)) ≡ keys
    same_keys =
        ap (λ (q : List Part). keys_in (drop (length q)
        (holder other (mentions_in now) ++ drop (length (holder other (mentions_in now))) other))) there.body
        ∙ ap (λ (q : List Part).
        keys_in (drop (length (reading_at k.number (lines s)).body) (q ++ drop (length q) other))) holds
        ∙ written profile limit s other more d k

    changed_now : change now (insert other more) ≡ at_line now (suc j) (keyval (name_with keys) more ∷ [])
    changed_now =
        change_there now other more j (no_item profile limit s other more d k (mentions_in now)) bare_now last_now
        ∙ ap (λ (ks : List (List ℕ)). at_line now (suc j) (keyval (name_with ks) more ∷ [])) same_keys

    place_now : place now (insert other more) ≡ put_in (moved_by c d.at) d.new
    place_now =
        let bom : List ℕ = text_of (bom_leaves now.bom) in
        let from : ℕ = length (bom ++ ended_text (take (suc j) now.ended)) in
        put_place now (insert other more) (name_with keys) more (suc j) changed_now there.closed
        ∙ ap (λ (w : Written). put_in from (text_of (ended_leaves (new_line w (keyval (name_with keys) more))))) newline
        ∙ ap (put_in from) (sym (line_is profile limit s other more d k))
        ∙ ap (λ (i : ℕ). put_in i d.new) (length-append bom (ended_text (take (suc j) now.ended)) ∙ at)

    pub dotted_again : StillAdds true profile limit s now other more (moved c d)
    dotted_again = (
      record {
        utf8 = k.utf8;
        given = k.given;
        allowed = allowed;
        text = k.text;
        more = k.more;
        new = k.new ∙ ap (λ (q : List Part). q ++ map key (k.text ∷ k.more)) (sym holds);
        bare = bare_now;
        number = j;
        last = last_now;
        closed = there.closed;
        adds = k.adds;
        is = place_now;
      },
      ap (λ (q : List Part). take (suc (length q)) other) holds,
    )

  -- in a document that says the same but at a zone's path and under it
  pub dotted_said : (zone : List Part) → IsSaidBeside zone (mentions_in s) (mentions_in now) → strip zone other ≡ None
      → StillAdds true profile limit s now other more (moved c d)
  dotted_said zone said clear =
      let its : InsertsKeys profile limit s other more = dotted_keys profile limit s other more d k in
      let node : is_node a (mentions_in now) ≡ true = lead_node now a j there.last in
      dotted_again (holder_beside profile limit s zone now said other more its clear node)
      (refusal_beside profile limit s zone now said other more its clear node)

  -- where only a run of mentions at that path and under it is gone, and on the way there
  pub dotted_cut : (path : List Part) → IsCut path (mentions_in s) (mentions_in now) → strip path other ≡ None
      → StillAdds true profile limit s now other more (moved c d)
  dotted_cut path cut clear = dotted_said path (said_of_cut path (mentions_in s) (mentions_in now) cut) clear
