-- A line that an insert adds, at the end of a body or to a table which dotted keys make: its key, and its path.
--
-- Its key goes by the keys on the way from its body to the holder, and then by the new ones, so its path is that of the
-- insert (`path_is`). At the end of a body there are no keys on the way (`line_on_way`); in a table of dotted keys they
-- are those of the line before it (`dotted_on_way`).
--
-- Theorems: `line_on_way`, `dotted_on_way`; `lines_now`, `path_is`; `path_clear`, `path_apart`: other paths.
use Rattle.std.proofs.Common.{◌≡◌, ℕ, suc, ◌≤◌, List, [], ◌∷◌, ◌++◌, length, map, take, drop, sym, ap, subst, ◌∙◌}
use Rattle.std.proofs.Common.{append_assoc, Some, None}
use Rattle.std.proofs.lemmas.List.{append-nil, map-append}
use Rattle.keep_types.specs.declared.leaf.Profile.{Profile}
use Rattle.keep_syntax.specs.Tree.{Value, Ended, Document, keyval}
use Rattle.keep_path.specs.Path.{Part, key, strip}
use Rattle.keep_meaning.specs.Marks.{Reading, below, start}
use Rattle.keep_meaning.specs.Meaning.{keys_of, lines, lines_mentions, mentions_in, step}
use Rattle.keep_edit_spec.specs.AddedLines.{AddsLine, first_new}
use Rattle.keep_edit_spec.specs.DottedLines.{AddsDotted}
use Rattle.keep_edit_spec.specs.Edits.{at_line, change, edited_document, insert, name_with}
use Rattle.keep_edit_spec.specs.Lines.{new_line, newline_of, reading_at}
use Rattle.keep_edit_spec.specs.Look.{holder}
use Rattle.keep_edit_spec.specs.Runs.{AreApart}
use Rattle.keep_edit_spec.specs.TextChanges.{TextChange}
use Rattle.keep_edit_spec.proofs.Common.BodyEnd.{IsBodyEnd}
use Rattle.keep_edit_spec.proofs.Common.Doubles.{IsDoubleOf}
use Rattle.keep_edit_spec.proofs.Common.Runs.{AllOf}
use Rattle.keep_edit_spec.proofs.Common.Stops.{stops}
use Rattle.keep_edit_spec.proofs.Insert.InsertDotted.{IsDottedLine}
use Rattle.keep_edit_spec.proofs.Insert.KeysAtEnd as keys_at_end
use Rattle.keep_edit_spec.proofs.Insert.KeysAtEnd.{path_goes_on}
use Rattle.keep_edit_spec.proofs.Lists.BodyEnds.{lines_put}
use Rattle.keep_edit_spec.proofs.Lists.DottedLine as dotted
use Rattle.keep_edit_spec.proofs.Lists.NewHolder.{apart_under, clear_under}
use Rattle.keep_edit_spec.proofs.Lists.NewPaths.{InsertsKeys, dotted_keys, line_keys}
use Rattle.keep_edit_spec.proofs.Lists.Places.{changes, item_none, put_document, with_line_before}

-- Before which line it comes, and by which keys its own goes from its body to the holder.
pub record AddsOnWay (profile : Profile) (limit : ℕ) (s : Document) (path : List Part) (value : Value) : Type 0 where
  pub inserts : InsertsKeys profile limit s path value
  pub n : ℕ
  pub way : List (List ℕ)
  pub few : n ≤ length s.ended
  pub holds : holder path (mentions_in s) ≡ (reading_at n (lines s)).body ++ map key way
  pub means : keys_of (name_with (way ++ inserts.text ∷ inserts.more)).key ≡ way ++ inserts.text ∷ inserts.more
  pub changed : change s (insert path value)
      ≡ at_line s n (keyval (name_with (way ++ inserts.text ∷ inserts.more)) value ∷ [])
  pub doubles : AllOf (IsDoubleOf (lines_mentions start (take n (lines s))))
      (map (below (reading_at n (lines s)).body) (stops way))

abbrev pub line_on_way : (profile : Profile) (limit : ℕ) (s : Document) (path : List Part) (value : Value)
    (c : TextChange) → AddsLine profile limit s path value c → AddsOnWay profile limit s path value
line_on_way profile limit s path value c h =
    let a : List Part = holder path (mentions_in s) in
    let end : IsBodyEnd s a h.number =
    keys_at_end.end profile limit s path h.text h.more value h.number h.utf8 h.allowed h.new h.ends in
    record {
      inserts = line_keys profile limit s path value c h;
      n = h.number;
      way = [];
      few = h.closed;
      holds = sym (append-nil (reading_at h.number (lines s)).body ∙ end.body);
      means = keys_at_end.means profile limit s path h.text h.more value h.number h.utf8 h.allowed h.new h.ends;
      changed =
          changes s path value h.text h.more h.number (item_none path a h.text h.more h.new (mentions_in s)) h.new
          h.ends h.closed;
      doubles = tt;
    }

abbrev pub dotted_on_way : (profile : Profile) (limit : ℕ) (s : Document) (path : List Part) (value : Value)
    (c : TextChange) → AddsDotted profile limit s path value c → AddsOnWay profile limit s path value
dotted_on_way profile limit s path value c h =
    let before : IsDottedLine s (holder path (mentions_in s)) h.number =
    dotted.before profile limit s path value c h in
    let way : List (List ℕ) = before.first ∷ before.prefix in
    let n : ℕ = suc h.number in
    record {
      inserts = dotted_keys profile limit s path value c h;
      n = n;
      way = way;
      few = h.closed;
      holds = before.whole ∙ ap (λ (b : List Part). b ++ map key way) (sym before.at_body);
      means = dotted.means profile limit s path value c h;
      changed = dotted.changed profile limit s path value c h;
      doubles =
          subst (λ (b : List Part).
          AllOf (IsDoubleOf (lines_mentions start (take n (lines s)))) (map (below b) (stops way)))
          (sym before.at_body) before.doubles;
    }

module _ (profile : Profile) (limit : ℕ) (s : Document) (path : List Part) (value : Value)
    (h : AddsOnWay profile limit s path value) where
  abbrev first : List Part
  first = first_new s path

  abbrev pub keys : List (List ℕ)
  keys = h.way ++ h.inserts.text ∷ h.inserts.more

  abbrev pub x : Ended
  x = new_line (newline_of s) (keyval (name_with keys) value)

  abbrev pub r : Reading
  r = reading_at h.n (lines s)

  edited_is : edited_document s (insert path value) ≡ with_line_before h.n x s
  edited_is = put_document s (insert path value) (name_with keys) value h.n h.changed h.few

  pub lines_now : lines (edited_document s (insert path value)) ≡ take h.n (lines s) ++ x.line ∷ drop h.n (lines s)
  lines_now = ap lines edited_is ∙ lines_put h.n x s.ended s.last h.few

  pub path_is : r.body ++ step 0 (Some (name_with keys)) ≡ path
  path_is =
      let new : List (List ℕ) = h.inserts.text ∷ h.inserts.more in
      ap (λ (ks : List (List ℕ)). r.body ++ map key ks) h.means
      ∙ ap (λ (p : List Part). r.body ++ p) (map-append key h.way new)
      ∙ sym (append_assoc r.body (map key h.way) (map key new))
      ∙ ap (λ (p : List Part). p ++ map key new) (sym h.holds)
      ∙ sym h.inserts.new

  goes_on : path ≡ first ++ map key h.inserts.more
  goes_on = path_goes_on s path h.inserts.text h.inserts.more h.inserts.new

  -- what does not begin with the path of the first new key does not begin with the new path
  pub path_clear : (other : List Part) → strip first other ≡ None → strip path other ≡ None
  path_clear other clear =
      subst (λ (p : List Part). strip p other ≡ None) (sym goes_on)
      (clear_under first (map key h.inserts.more) other clear)

  -- and what is apart from the one is apart from the other
  pub path_apart : (other : List Part) → AreApart first other → AreApart path other
  path_apart other apart =
      subst (λ (p : List Part). AreApart p other) (sym goes_on) (apart_under first (map key h.inserts.more) other apart)
