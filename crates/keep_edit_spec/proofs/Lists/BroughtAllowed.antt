-- An insert of new keys is not refused after another one, of another first new key, brought the header of its table.
--
-- The first new keys are at other paths, as they are where the tables are others (`firsts_differ`). So neither the
-- second insert's path nor a prefix of it begins with that of the first one's (NewPaths). So the document says of each
-- what it said, but that the first insert's table is defined now, which brackets do not enclose (BroughtSaid). The
-- holder and the refusal are known by that (SaidOfPrefixes).
--
-- Theorems: `brought_keys`, `firsts_differ`; `holder_clear`, `holder_stays`, `refusal_stays`.
use Rattle.std.proofs.Common.{◌≡◌, ◌≢◌, ℕ, true, List, ◌∷◌, ◌++◌, map, sym, ap, ◌∙◌, None}
use Rattle.keep_types.specs.declared.leaf.Profile.{Profile}
use Rattle.keep_syntax.specs.Tree.{Document, Value}
use Rattle.keep_path.specs.Path.{Part, key, strip, without_last}
use Rattle.keep_meaning.specs.Marks.{Mention}
use Rattle.keep_meaning.specs.Meaning.{mentions_in}
use Rattle.keep_edit_spec.specs.AddedLines.{first_new}
use Rattle.keep_edit_spec.specs.BroughtHeaders.{BringsHeader}
use Rattle.keep_edit_spec.specs.Edits.{edited_document, insert}
use Rattle.keep_edit_spec.specs.Laws.{IsEditable}
use Rattle.keep_edit_spec.specs.Look.{enclosing, holder, is_bracket_at, is_table}
use Rattle.keep_edit_spec.specs.Refusals.{refusal}
use Rattle.keep_edit_spec.specs.TextChanges.{TextChange}
use Rattle.keep_edit_spec.proofs.Common.EntryDepths.{count_same}
use Rattle.keep_edit_spec.proofs.Insert.ItemCount.{without_last-snoc}
use Rattle.keep_edit_spec.proofs.Lists.BroughtSaid.{bracket_same, node_stays, table_stays}
use Rattle.keep_edit_spec.proofs.Lists.NewPaths.{InsertsKeys, before_clear, first_path, goes, other_clear}
use Rattle.keep_edit_spec.proofs.Lists.SaidOfPrefixes.{holder_alike, refused_alike}

abbrev pub brought_keys : (profile : Profile) (limit : ℕ) (s : Document) (path : List Part) (value : Value)
    (c : TextChange) → BringsHeader profile limit s path value c → InsertsKeys profile limit s path value
brought_keys profile limit s path value c h =
    record { text = h.text; more = h.more; new = h.new; allowed = h.allowed }

-- Where the tables are others, the first new keys are at other paths.
pub firsts_differ : (profile : Profile) (limit : ℕ) (s : Document) (path : List Part) (value : Value)
    (other : List Part) (more : Value) → InsertsKeys profile limit s path value
    → InsertsKeys profile limit s other more → holder path (mentions_in s) ≢ holder other (mentions_in s)
    → first_new s path ≢ first_new s other
firsts_differ profile limit s path value other more own its differs same =
    let a : List Part = holder path (mentions_in s) in
    let b : List Part = holder other (mentions_in s) in
    differs
    (sym (without_last-snoc a (key own.text))
    ∙ ap without_last
    (sym (first_path profile limit s path value own) ∙ same ∙ first_path profile limit s other more its)
    ∙ without_last-snoc b (key its.text))

module _ (profile : Profile) (limit : ℕ) (s : Document) (path : List Part) (value : Value) (c : TextChange)
    (fine : IsEditable profile limit s) (h : BringsHeader profile limit s path value c) (other : List Part)
    (more : Value) (k : InsertsKeys profile limit s other more)
    (differs : first_new s path ≢ first_new s other) where
  abbrev own : InsertsKeys profile limit s path value
  own = brought_keys profile limit s path value c h

  abbrev was : List Mention
  was = mentions_in s

  abbrev now : List Mention
  now = mentions_in (edited_document s (insert path value))

  abbrev b : List Part
  b = holder other was

  clear : (q rest : List Part) → other ≡ q ++ rest → strip (first_new s path) q ≡ None
  clear = before_clear profile limit s path value own other more k differs

  pub holder_clear : strip (first_new s path) b ≡ None
  holder_clear = clear b (map key (k.text ∷ k.more)) k.new

  pub holder_stays : holder other now ≡ b
  holder_stays =
      holder_alike was now other
      (λ q rest is. node_stays profile limit s path value c fine h q (clear q rest is))

  table_same : is_table (holder other now) now ≡ is_table b was
  table_same =
      let table : is_table b was ≡ true = (goes profile limit s other more k).table in
      ap (λ (p : List Part). is_table p now) holder_stays
      ∙ table_stays profile limit s path value c fine h b holder_clear table ∙ sym table

  encloses : enclosing other now ≡ enclosing other was
  encloses =
      count_same (is_bracket_at now) (is_bracket_at was) other
      (λ q p qs is. bracket_same profile limit s path value c fine h q (clear q (p ∷ qs) is))

  pub refusal_stays : refusal profile limit (edited_document s (insert path value)) (insert other more) ≡ None
  refusal_stays =
      refused_alike was now other k.text k.more k.new profile limit more holder_stays
      (node_stays profile limit s path value c fine h other
      (other_clear profile limit s path value own other more k differs)) table_same encloses
      ∙ k.allowed
