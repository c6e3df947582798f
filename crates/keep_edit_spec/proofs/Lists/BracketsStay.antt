-- An insert of keys leaves each array and inline table that is not at its path or under it.
--
-- At such a path stays what was there. Or a table comes there, if only headers went through: then nothing was there
-- (`no_fact`). So neither before nor after is it an array or an inline table (`table_comes`).
--
-- Theorem: `brackets_stay`.
use Rattle.std.proofs.Common.{◌≡◌, Bool, true, false, cond, not, ◌&&◌, ◌||◌, List, refl, sym, ap, ◌∙◌}
use Rattle.std.proofs.Common.{Option, Some, None}
use Rattle.keep_syntax.specs.Tree.{Value}
use Rattle.keep_path.specs.Path.{Part, same_path, strip}
use Rattle.keep_meaning.specs.Fact.{Fact}
use Rattle.keep_meaning.specs.Marks.{Mention}
use Rattle.keep_meaning.specs.Meaning.{mentions_of_value}
use Rattle.keep_meaning.specs.Nodes.{fact_at, has, is_begun, is_define, is_dotted, is_root}
use Rattle.keep_edit_spec.specs.Edits.{insert}
use Rattle.keep_edit_spec.specs.Look.{holder, is_bracket_at, item_number}
use Rattle.keep_edit_spec.specs.Trees.{Source, a_table, fact_from, from, has_fact, is_through_alone, source}
use Rattle.keep_edit_spec.proofs.Common.EntryDepths.{bracket_of}

-- ---- a table that comes where headers went through

no_fact : (same root begins dotted fact : Bool)
    → (same && (not root && not (begins || (dotted || fact)))) ≡ true → fact ≡ false
no_fact same root begins dotted false e = refl
no_fact false root begins dotted true e = absurd cc
no_fact true true begins dotted true e = absurd cc
no_fact true false true dotted true e = absurd cc
no_fact true false false true true e = absurd cc
no_fact true false false false true e = absurd cc

table_comes : (ms new : List Mention) (q : List Part) (b : Bool) → (b ≡ true → has_fact q ms ≡ false)
    → bracket_of (fact_from ms new (cond b a_table (from q))) ≡ is_bracket_at ms q
table_comes ms new q false none = refl
table_comes ms new q true none = sym (by (fact_at q ms) (none refl))
  where
    by : (o : Option Fact) → elim o [ None ↦ false | Some f ↦ true ] ≡ false → bracket_of o ≡ false
    by None e = refl
    by (Some f) e = absurd cc

-- ---- what an insert leaves

pub brackets_stay : (ms : List Mention) (path : List Part) (value : Value) (q : List Part)
    → item_number path ms ≡ None → strip path q ≡ None
    → bracket_of (fact_from ms (mentions_of_value value) (source ms (insert path value) q)) ≡ is_bracket_at ms q
brackets_stay ms path value q no_item clear =
    let same : Bool = same_path q (holder path ms) in
    let own : source ms (insert path value) q ≡ cond (same && is_through_alone q ms) a_table (from q) =
    rw (no_item, clear, source) refl in
    ap (λ (x : Source). bracket_of (fact_from ms (mentions_of_value value) x)) own
    ∙ table_comes ms (mentions_of_value value) q (same && is_through_alone q ms)
    (no_fact same (is_root q) (has is_define q ms || has is_begun q ms) (has is_dotted q ms) (has_fact q ms))
