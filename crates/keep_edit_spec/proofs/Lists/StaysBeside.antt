-- An insert that adds a line, and a remove that takes one, do so after a change within one line, beside their own.
--
-- Where the change leaves what they ask of the document, they find the line with the same number, and this one begins
-- where it did, or moved by the change (LineStarts). For an insert that is what is said of its path and the prefixes of
-- it (SaidOfPrefixes), and where its holder's body ends. For a remove it is which line is the path's own, and that none
-- has a comment; so it is not refused (RemovedOwn). A remove that leaves its line with the comment clears it at the
-- moved place, if the one change stays after the other, and the line ends where it did, or moved.
--
-- Theorems: `adds_beside`, `removes_beside`, `clears_beside`.
use Rattle.std.proofs.Common.{◌≡◌, ℕ, suc, ◌+◌, ◌<◌, ◌≤◌, List, [], ◌∷◌, ◌++◌, length, map, take, sym, ap}
use Rattle.std.proofs.Common.{ap₂, ◌∙◌, length-append, cond, ◌-◌, arith, Some, None}
use Rattle.std.specs.Prelude.{nat_lt}
use Rattle.keep_types.specs.declared.leaf.Profile.{Profile}
use Rattle.keep_syntax.specs.Tree.{Document, Value, Written, bom_leaves, ended_leaves, keyval, text, text_of}
use Rattle.keep_path.specs.Path.{Part, key}
use Rattle.keep_meaning.specs.Marks.{marks, start}
use Rattle.keep_meaning.specs.Meaning.{lines, mentions_in}
use Rattle.keep_meaning.specs.Nodes.{kinds_at}
use Rattle.keep_meaning.specs.Rules.{ObeysRules}
use Rattle.keep_edit_spec.specs.AddedLines.{AddsLine, AddsLineStill}
use Rattle.keep_edit_spec.specs.Changed.{Changed, place_of, put}
use Rattle.keep_edit_spec.specs.ClearedLines.{ClearsLine, line_start}
use Rattle.keep_edit_spec.specs.Edits.{clear_line, end_of, name_with}
use Rattle.keep_edit_spec.specs.Insertion.{put_in}
use Rattle.keep_edit_spec.specs.Lines.{ended_text, in_document, in_lines, last_line, new_line, newline_of}
use Rattle.keep_edit_spec.specs.Look.{holder}
use Rattle.keep_edit_spec.specs.RemovedLines.{RemovesLine}
use Rattle.keep_edit_spec.specs.TextChanges.{IsBeside, TextChange, change_at as change_to, moved, moved_by}
use Rattle.keep_edit_spec.specs.TextChanges.{place_of_change}
use Rattle.keep_edit_spec.proofs.Common.Marks.{rules_of_document}
use Rattle.keep_edit_spec.proofs.Lists.ClearStays.{clears_now}
use Rattle.keep_edit_spec.proofs.Lists.LineStarts.{LinesBegin, line_moves}
use Rattle.keep_edit_spec.proofs.Lists.Places.{at_is, item_none, line_is, place_is}
use Rattle.keep_edit_spec.proofs.Lists.RemovedOwn.{own_allowed}
use Rattle.keep_edit_spec.proofs.Lists.RemovedPlaces.{at_is as line_at, end_is as line_end, mine}
use Rattle.keep_edit_spec.proofs.Lists.RemovedPlaces.{place_is as line_place}
use Rattle.keep_edit_spec.proofs.Lists.RenamePlaces.{IsChangeAt}
use Rattle.keep_edit_spec.proofs.Lists.SaidOfPrefixes.{holder_same, refusal_same}
use Rattle.keep_edit_spec.proofs.Lists.SetPlaces.{Stays}
use Rattle.keep_edit_spec.proofs.Remove.RemoveWhole.{removable}

module _ (profile : Profile) (limit : ℕ) (s : Document) (x : Changed Document) (c : TextChange)
    (begin : LinesBegin s x) (there : IsChangeAt c x) (some : 0 < c.size) where
  pub adds_beside : (path : List Part) (value : Value) (d : TextChange) → AddsLine profile limit s path value d
      → IsBeside c d → newline_of x.to ≡ newline_of s
      → ((q rest : List Part) → path ≡ q ++ rest
      → kinds_at q (mentions_in x.to) ≡ kinds_at q (mentions_in s))
      → end_of x.to (holder path (mentions_in s)) ≡ end_of s (holder path (mentions_in s))
      → AddsLineStill profile limit s x.to path value (moved c d)
  adds_beside path value d k side newline said end =
      let n : ℕ = k.number in
      let ms = mentions_in s in
      let now = mentions_in x.to in
      let same : holder path now ≡ holder path ms = holder_same ms now path k.text k.more k.new said in
      let new : path ≡ holder path now ++ map key (k.text ∷ k.more) =
      k.new ∙ ap (λ (a : List Part). a ++ map key (k.text ∷ k.more)) (sym same) in
      let ends : end_of x.to (holder path now) ≡ Some n = ap (end_of x.to) same ∙ end ∙ k.ends in
      let closed : n ≤ length x.to.ended = omega (arith, k.closed, begin.count) in
      let bom : List ℕ = text_of (bom_leaves x.to.bom) in
      let from : ℕ = length (bom ++ ended_text (take n x.to.ended)) in
      let at : from ≡ moved_by c d.at =
      omega (
        arith,
        length-append bom (ended_text (take n x.to.ended)),
        line_moves s x c d begin there some side n 0 (omega arith)
            (omega (arith, at_is profile limit s path value d k)),
      ) in
      let line : Written → List ℕ =
      λ w. text_of (ended_leaves (new_line w (keyval (name_with (k.text ∷ k.more)) value))) in (
        record {
          utf8 = k.utf8;
          given = k.given;
          allowed = refusal_same ms now path k.text k.more k.new said profile limit value ∙ k.allowed;
          text = k.text;
          more = k.more;
          new = new;
          number = n;
          ends = ends;
          closed = closed;
          newline = k.newline;
          adds = k.adds;
          is = place_is x.to path value k.text k.more n (item_none path (holder path ms) k.text k.more k.new now) new
              ends closed
              ∙ ap (λ (w : Written). put_in from (line w)) newline
              ∙ ap (put_in from) (sym (line_is profile limit s path value d k))
              ∙ ap (λ (i : ℕ). put_in i d.new) at;
        },
        ap (λ (a : List Part). take (suc (length a)) path) same,
      )

  pub removes_beside : (path : List Part) (d : TextChange) → RemovesLine profile limit s path d
      → IsBeside c d → ObeysRules (marks (mentions_in x.to))
      → in_lines (clear_line path) start x.to.ended x.to.last ≡ None
      → last_line (mine path) start (lines x.to) ≡ last_line (mine path) start (lines s)
      → RemovesLine profile limit x.to path (moved c d)
  removes_beside path d k side obeys bare same =
      let n : ℕ = k.number in
      let own : last_line (mine path) start (lines x.to) ≡ Some n = same ∙ k.own in
      let closed : n < length x.to.ended = omega (arith, k.closed, begin.count) in
      let at : line_start x.to n ≡ moved_by c d.at =
      omega (
        arith,
        line_moves s x c d begin there some side n 0 (omega arith) (omega (arith, line_at profile limit s path d k)),
      ) in
      let end : line_start x.to (suc n) ≡ moved_by c d.at + d.size =
      line_moves s x c d begin there some side (suc n) d.size (omega arith) (line_end profile limit s path d k) in
      record {
        allowed = own_allowed profile limit x.to path n (rules_of_document x.to obeys) own
            (removable profile limit s path k.allowed).below_root;
        bare = bare;
        number = n;
        own = own;
        closed = closed;
        takes = k.takes;
        is = line_place x.to path n bare own closed
            ∙ ap₂ (λ (b e : ℕ). record { start = b; end = e; new = [] }) at end;
      }

  pub clears_beside : (path : List Part) (d : TextChange) → ClearsLine profile limit s path d
      → IsBeside c d → ObeysRules (marks (mentions_in x.to)) → text x.to ≡ put (text s) (place_of_change c)
      → c.at + c.size ≤ length (text s)
      → Stays x (in_document s (in_lines (clear_line path) start s.ended s.last))
      (in_document x.to (in_lines (clear_line path) start x.to.ended x.to.last))
      → last_line (mine path) start (lines x.to) ≡ last_line (mine path) start (lines s)
      → ClearsLine profile limit x.to path (moved c d)
  clears_beside path d k side obeys spelled within stays same =
      let n : ℕ = k.number in
      let own : last_line (mine path) start (lines x.to) ≡ Some n = same ∙ k.own in
      let closed : n < length x.to.ended = omega (arith, k.closed, begin.count) in
      let b : TextChange = change_to c.at c.size x.new in
      let placed : place_of x ≡ place_of_change b =
      ap₂ (λ (i m : ℕ). record { start = i; end = i + m; new = x.new }) there.at there.size in
      clears_now profile limit s x.to path c d k side
      (own_allowed profile limit x.to path n (rules_of_document x.to obeys) own
      (removable profile limit s path k.allowed).below_root) n own closed
      (line_moves s x c d begin there some side (suc n) d.size (omega arith) k.ends) spelled within x b placed
      (λ at. ap (λ (m : ℕ). cond (nat_lt at c.at) at ((at + m) - c.size)) there.new) stays
