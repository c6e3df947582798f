-- An insert that brings the header of its table brings the same in another document, if its table stays a node that no
-- header defines and no dotted keys make, and it is not refused: where the body of the last header ends that goes
-- through the table (`brought_there`), which may be where a change moves it (`brought_again`).
--
-- The same three lines come after that body (BroughtLines; `place_now`). Where the document says the same but at
-- another path and under it, the table is a node still, since a header goes through it (NewHolder). So it is the
-- holder, and the insert is not refused (SaidBeside).
--
-- Theorems: `brought_there`, `brought_again`; `brought_said`: in a document that says the same but at another path and
-- under it; `brought_cut`: where only a run there is gone.
use Rattle.std.proofs.Common.{◌≡◌, ℕ, ◌≤◌, true, List, ◌∷◌, ◌++◌, length, map, take, refl, sym, ap, ◌∙◌, length-append}
use Rattle.std.proofs.Common.{Some, None}
use Rattle.keep_types.specs.declared.leaf.Profile.{Profile}
use Rattle.keep_syntax.specs.Tree.{Written, Content, Value, Document, bom_leaves, text_of}
use Rattle.keep_path.specs.Path.{Part, key, strip}
use Rattle.keep_meaning.specs.Marks.{start}
use Rattle.keep_meaning.specs.Meaning.{lines, mentions_in}
use Rattle.keep_meaning.specs.Nodes.{is_node}
use Rattle.keep_edit_spec.specs.BroughtHeaders.{BringsHeader, StillBrings}
use Rattle.keep_edit_spec.specs.ClearedLines.{line_start}
use Rattle.keep_edit_spec.specs.Edits.{at_line, change, end_of, insert, place}
use Rattle.keep_edit_spec.specs.Insertion.{put_in}
use Rattle.keep_edit_spec.specs.Lines.{body_end, ended_text, last_line, leads_dotted, leads_through, new_line}
use Rattle.keep_edit_spec.specs.Lines.{newline_of}
use Rattle.keep_edit_spec.specs.Look.{holder}
use Rattle.keep_edit_spec.specs.Refusals.{refusal}
use Rattle.keep_edit_spec.specs.TextChanges.{TextChange, moved, moved_by}
use Rattle.keep_edit_spec.proofs.Common.Cuts.{IsCut}
use Rattle.keep_edit_spec.proofs.Lists.BroughtAllowed.{brought_keys}
use Rattle.keep_edit_spec.proofs.Lists.BroughtLines.{brings_at, header_lines, new_is}
use Rattle.keep_edit_spec.proofs.Lists.NewHolder.{through_node}
use Rattle.keep_edit_spec.proofs.Lists.NewPaths.{InsertsKeys}
use Rattle.keep_edit_spec.proofs.Lists.Places.{puts_place}
use Rattle.keep_edit_spec.proofs.Lists.SaidBeside.{IsSaidBeside, holder_beside, refusal_beside, said_of_cut}

-- The last header that goes through the table, in another document, where no header defines the table and no dotted
-- keys make it: a newline ends the line before the end of its body.
pub record IsThroughThere (s : Document) (other : List Part) (now : Document) (j : ℕ) : Type 0 where
  pub bare : end_of now (holder other (mentions_in s)) ≡ None
  pub no_dots : last_line (leads_dotted (holder other (mentions_in s))) start (lines now) ≡ None
  pub last : last_line (leads_through (holder other (mentions_in s))) start (lines now) ≡ Some j
  pub closed : body_end j (lines now) ≤ length now.ended

-- The same header comes there by this change, which has the same bytes.
module _ (profile : Profile) (limit : ℕ) (s now : Document) (other : List Part) (more : Value) (d e : TextChange)
    (k : BringsHeader profile limit s other more d) (j : ℕ) (there : IsThroughThere s other now j)
    (at : line_start now (body_end j (lines now)) ≡ e.at) (adds : e.size ≡ 0) (new : e.new ≡ d.new)
    (newline : newline_of now ≡ newline_of s) where
  abbrev a : List Part
  a = holder other (mentions_in s)

  -- the number of the first new line
  abbrev n : ℕ
  n = body_end j (lines now)

  abbrev contents : List Content
  contents = header_lines a (k.text ∷ k.more) more

  module _ (holds : holder other (mentions_in now) ≡ a)
      (allowed : refusal profile limit now (insert other more) ≡ None) where
    new_now : other ≡ holder other (mentions_in now) ++ map key (k.text ∷ k.more)
    new_now = k.new ∙ ap (λ (q : List Part). q ++ map key (k.text ∷ k.more)) (sym holds)

    bare_now : end_of now (holder other (mentions_in now)) ≡ None
    bare_now = ap (end_of now) holds ∙ there.bare

    dots_now : last_line (leads_dotted (holder other (mentions_in now))) start (lines now) ≡ None
    dots_now = ap (λ (q : List Part). last_line (leads_dotted q) start (lines now)) holds ∙ there.no_dots

    last_now : last_line (leads_through (holder other (mentions_in now))) start (lines now) ≡ Some j
    last_now = ap (λ (q : List Part). last_line (leads_through q) start (lines now)) holds ∙ there.last

    changed_now : change now (insert other more) ≡ at_line now n contents
    changed_now =
        brings_at now other more k.text k.more j new_now bare_now dots_now last_now
        ∙ ap (λ (q : List Part). at_line now n (header_lines q (k.text ∷ k.more) more)) holds

    place_now : place now (insert other more) ≡ put_in e.at e.new
    place_now =
        let bom : List ℕ = text_of (bom_leaves now.bom) in
        let from : ℕ = length (bom ++ ended_text (take n now.ended)) in
        puts_place now (insert other more) contents n changed_now there.closed
        ∙ ap (λ (w : Written). put_in from (ended_text (map (new_line w) contents))) newline
        ∙ ap (put_in from) (sym (new ∙ new_is profile limit s other more d k))
        ∙ ap (λ (i : ℕ). put_in i e.new) (length-append bom (ended_text (take n now.ended)) ∙ at)

    pub brought_there : StillBrings profile limit s now other more e
    brought_there = (
      record {
        utf8 = k.utf8;
        given = k.given;
        allowed = allowed;
        text = k.text;
        more = k.more;
        new = new_now;
        bare = bare_now;
        no_dots = dots_now;
        number = j;
        last = last_now;
        closed = there.closed;
        adds = adds;
        is = place_now;
      },
      holds,
    )

-- where a change moves it
module _ (profile : Profile) (limit : ℕ) (s now : Document) (other : List Part) (more : Value) (c d : TextChange)
    (k : BringsHeader profile limit s other more d) (j : ℕ) (there : IsThroughThere s other now j)
    (at : line_start now (body_end j (lines now)) ≡ moved_by c d.at) (newline : newline_of now ≡ newline_of s) where
  abbrev table : List Part
  table = holder other (mentions_in s)

  pub brought_again : holder other (mentions_in now) ≡ table → refusal profile limit now (insert other more) ≡ None
      → StillBrings profile limit s now other more (moved c d)
  brought_again =
      brought_there profile limit s now other more d (moved c d) k j there at k.adds refl newline

  -- in a document that says the same but at a zone's path and under it
  pub brought_said : (zone : List Part) → IsSaidBeside zone (mentions_in s) (mentions_in now) → strip zone other ≡ None
      → StillBrings profile limit s now other more (moved c d)
  brought_said zone said clear =
      let its : InsertsKeys profile limit s other more = brought_keys profile limit s other more d k in
      let node : is_node table (mentions_in now) ≡ true = through_node now table j there.last in
      brought_again (holder_beside profile limit s zone now said other more its clear node)
      (refusal_beside profile limit s zone now said other more its clear node)

  -- where only a run of mentions at that path and under it is gone, and on the way there
  pub brought_cut : (path : List Part) → IsCut path (mentions_in s) (mentions_in now) → strip path other ≡ None
      → StillBrings profile limit s now other more (moved c d)
  brought_cut path cut clear = brought_said path (said_of_cut path (mentions_in s) (mentions_in now) cut) clear
