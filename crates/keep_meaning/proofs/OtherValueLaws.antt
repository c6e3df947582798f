-- Another value in the place of one gives the nodes of the new one in the place of those in the old one, which are met
-- together: a value with a key says a run of mentions at its path and below it.
--
-- Theorem: `value_gives_nodes`.
use Rattle.std.proofs.Common.{◌≡◌, ◌∙◌, ℕ, List, ap, length, map, refl, subst, sym, Some}
use Rattle.keep_types.specs.declared.node.Origin.TheVariants as origin
use Rattle.keep_syntax.specs.Numbered.{part_count, value_count}
use Rattle.keep_syntax.specs.Tree.{Entries}
use Rattle.keep_path.specs.NodeInfos.{NodeInfos}
use Rattle.keep_path.specs.NodesBelow.{AreBelow, with_value}
use Rattle.keep_path.specs.Path.{Part}
use Rattle.keep_meaning.specs.Counts.{Count, numbered_in, numbered_mentions}
use Rattle.keep_meaning.specs.Fact.{Fact}
use Rattle.keep_meaning.specs.Marks.{value as mentions_value}
use Rattle.keep_meaning.specs.Meaning.{body_fact, entries_mentions}
use Rattle.keep_meaning.specs.Nodes.{fact_kind, node_number}
use Rattle.keep_meaning.specs.OtherValues.{IsApart, IsSaidBefore, IsSaidPast, ValueGivesNodes, count_past, totals_of}
use Rattle.keep_meaning.proofs.LineNodeLemmas.{infos_of, path_of}
use Rattle.keep_meaning.proofs.LineNumberLemmas.{AllOf}
use Rattle.keep_meaning.proofs.RunLaws.{IsPlace, Run, below_run, nodes_given}
use Rattle.keep_meaning.proofs.RunLemmas.{all_again, all_said, count_alone, deeper, deeper_inside}

of_value : IsPlace origin.Value
of_value = record { moves = λ f v. refl; number = λ i v. refl }

abbrev value_run : (path : List Part) (c : Count) (f : Fact) (es : Entries) → Run path c origin.Value
value_run path c f es = record {
  said = mentions_value f;
  marked = refl;
  nested = entries_mentions 0 es;
  deep = deeper_inside 0 es;
  kind = fact_kind f;
  stated = refl;
}

pub value_gives_nodes : ValueGivesNodes
value_gives_nodes d other path v h i number =
    let off_before : AllOf (IsApart path) h.before = all_again (IsApart path) h.before h.apart_before in
    let off_after : AllOf (IsApart path) h.after = all_again (IsApart path) h.after h.apart_after in
    let low : AllOf (IsSaidBefore h.count) h.before = all_again (IsSaidBefore h.count) h.before h.lower in
    let high : AllOf (IsSaidPast (count_past h.count h.entries)) h.after =
    all_again (IsSaidPast (count_past h.count h.entries)) h.after h.higher in
    let was : Run path h.count origin.Value = value_run path h.count h.fact h.entries in
    let is : Run path h.count origin.Value = value_run path h.count (body_fact v.body) v.nested in
    let old : infos_of (numbered_in d)
    ≡ infos_of (all_said path h.count was.said was.marked was.nested was.deep h.before h.after off_before off_after) =
    ap infos_of h.old in
    let there = subst (λ (t : NodeInfos). node_number t.paths path ≡ Some i) old number in
    let gone : ℕ = length (deeper (map path_of (entries_mentions 0 h.entries))) in (
      gone,
      subst (λ (t : NodeInfos). AreBelow t.paths i gone) (sym old)
          (below_run path h.count origin.Value of_value was is (value_count h.entries) (part_count h.entries)
          (value_count v.nested) (part_count v.nested) h.before h.after (totals_of d) (totals_of other) low high
          off_before off_after h.values h.keys i there),
      ap infos_of h.new
          ∙ nodes_given path h.count origin.Value of_value was is (value_count h.entries) (part_count h.entries)
          (value_count v.nested) (part_count v.nested) h.before h.after (totals_of d) (totals_of other) low high
          off_before off_after h.values h.keys i there
          ∙ ap (λ (t : NodeInfos).
          with_value t i gone (totals_of d) (totals_of other)
          (infos_of (numbered_mentions (count_alone is.said) is.nested)) is.kind) (sym old),
    )
