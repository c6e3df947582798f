-- A run of mentions at and under a path is taken out, with what only led there: the rules and the tree afterwards.
--
-- Theorems: `rules_cut`: the rules hold; `tree_cut`: where the path ends in a key, the tree is that of `remove`.
use Rattle.std.proofs.Common.{◌≡◌, List, [], ◌∷◌, ◌++◌, map, refl, sym, ap, subst, ◌∙◌, append_assoc, Option, Some}
use Rattle.std.proofs.Common.{None}
use Rattle.std.specs.List.{filter_map}
use Rattle.std.proofs.lemmas.List.{map-append}
use Rattle.keep_path.specs.Path.{Part, key, index}
use Rattle.keep_meaning.specs.Marks.{Mention, below, fact_of}
use Rattle.keep_meaning.specs.Nodes.{fact_at, first_of}
use Rattle.keep_edit_spec.specs.Look.{strip, last_part, without_last}
use Rattle.keep_edit_spec.specs.Edits.{remove}
use Rattle.keep_edit_spec.specs.Trees.{Source, IsTreeOf, fact_from, from as from_path, nothing, put_out}
use Rattle.keep_edit_spec.proofs.Common.Runs.{AllOf, all_join, Rules, IsDisjoint, IsUnder, kinds_at-disjoint}
use Rattle.keep_edit_spec.proofs.Common.Runs.{fact_elsewhere}
use Rattle.keep_edit_spec.proofs.Common.SetLaw.{disjoint_below}
use Rattle.keep_edit_spec.proofs.Common.LineLaws.{EndsInKey}
use Rattle.keep_edit_spec.proofs.Common.Moves.{rules_taken}
use Rattle.keep_edit_spec.proofs.Common.InsertLaw.{without_ways, none_below, under_both}

pub record IsCut (path : List Part) (from to : List Mention) : Type 0 where
  pub before : List Mention
  pub ways : List Mention
  pub run : List Mention
  pub after : List Mention
  pub was : from ≡ before ++ ((ways ++ run) ++ after)
  pub is : to ≡ before ++ after
  pub disjoint_before : AllOf (IsDisjoint path) before
  pub disjoint_after : AllOf (IsDisjoint path) after
  pub silent : AllOf (λ m. fact_of m.kind ≡ None) ways
  pub under : AllOf (IsUnder path) run

map_four : (s : List Part) (a b c d : List Mention)
    → map (below s) (a ++ ((b ++ c) ++ d)) ≡ map (below s) a
    ++ ((map (below s) b ++ map (below s) c) ++ map (below s) d)
map_four s a b c d =
    map-append (below s) a ((b ++ c) ++ d)
    ∙ ap (λ l. map (below s) a ++ l)
    (map-append (below s) (b ++ c) d ∙ ap (λ l. l ++ map (below s) d) (map-append (below s) b c))

pub cut_below : (s path : List Part) (from to : List Mention) → IsCut path from to
    → IsCut (s ++ path) (map (below s) from) (map (below s) to)
cut_below s path from to h = record {
  before = map (below s) h.before;
  ways = map (below s) h.ways;
  run = map (below s) h.run;
  after = map (below s) h.after;
  was = ap (map (below s)) h.was ∙ map_four s h.before h.ways h.run h.after;
  is = ap (map (below s)) h.is ∙ map-append (below s) h.before h.after;
  disjoint_before = disjoint_below s path h.before h.disjoint_before;
  disjoint_after = disjoint_below s path h.after h.disjoint_after;
  silent = none_below s h.ways h.silent;
  under = under_both s path h.run h.under;
}

around : (left before mid after right : List Mention)
    → left ++ ((before ++ (mid ++ after)) ++ right) ≡ (left ++ before) ++ (mid ++ (after ++ right))
around left before mid after right = simp append_assoc refl

around_two : (left before after right : List Mention)
    → left ++ ((before ++ after) ++ right) ≡ (left ++ before) ++ (after ++ right)
around_two left before after right = simp append_assoc refl

pub cut_beside : (path : List Part) (from to left right : List Mention) → AllOf (IsDisjoint path) left
    → AllOf (IsDisjoint path) right → IsCut path from to → IsCut path (left ++ (from ++ right)) (left ++ (to ++ right))
cut_beside path from to left right hl hr h = record {
  before = left ++ h.before;
  ways = h.ways;
  run = h.run;
  after = h.after ++ right;
  was = ap (λ l. left ++ (l ++ right)) h.was ∙ around left h.before (h.ways ++ h.run) h.after right;
  is = ap (λ l. left ++ (l ++ right)) h.is ∙ around_two left h.before h.after right;
  disjoint_before = all_join (IsDisjoint path) left h.before hl h.disjoint_before;
  disjoint_after = all_join (IsDisjoint path) h.after right h.disjoint_after hr;
  silent = h.silent;
  under = h.under;
}

pub rules_cut : (path : List Part) (from to : List Mention) → IsCut path from to → Rules from → Rules to
rules_cut path from to h rules =
    subst Rules (sym h.is) (rules_taken h.before (h.ways ++ h.run) h.after (subst Rules h.was rules))

-- ---- the tree

regroup : (a b c d : List Mention) → a ++ ((b ++ c) ++ d) ≡ (a ++ b) ++ (c ++ d)
regroup a b c d = simp append_assoc refl

pub cut_by : (path : List Part) (from to : List Mention) → IsCut path from to → (q : List Part) (o : Option (List Part))
    → strip path q ≡ o → fact_at q to ≡ fact_from from [] (elim o [ Some more ↦ nothing | None ↦ from_path q ])
cut_by path from to h q (Some r) e =
    ap (fact_at q) h.is
    ∙ ap (λ l. first_of (filter_map fact_of l))
    (kinds_at-disjoint path q r (h.before ++ h.after)
    (all_join (IsDisjoint path) h.before h.after h.disjoint_before h.disjoint_after) e)
cut_by path from to h q None e =
    ap (fact_at q) h.is
    ∙ sym (without_ways q h.before h.ways h.after h.silent)
    ∙ fact_elsewhere path q (h.before ++ h.ways) h.run [] h.after h.under tt e
    ∙ ap (fact_at q) (sym (regroup h.before h.ways h.run h.after) ∙ sym h.was)

pub last_part-snoc : (q : List Part) (x : Part) → last_part (q ++ x ∷ []) ≡ Some x
last_part-snoc [] x = refl
last_part-snoc (p ∷ []) x = refl
last_part-snoc (p ∷ r ∷ q) x = last_part-snoc (r ∷ q) x

pub without_last-snoc : (q : List Part) (x : Part) → without_last (q ++ x ∷ []) ≡ q
without_last-snoc [] x = refl
without_last-snoc (p ∷ []) x = refl
without_last-snoc (p ∷ r ∷ q) x = ap (λ l. p ∷ l) (without_last-snoc (r ∷ q) x)

-- removing what ends in a key
abbrev pub removed_by : List Part → List Part → Option Part → Source
removed_by path q o = elim o [
  | None ↦ from_path q
  | Some part ↦ elim part [
    | index n ↦ put_out (without_last path) n q
    | key text ↦ elim (strip path q) [ Some more ↦ nothing | None ↦ from_path q ]
  ]
]

pub tree_cut : (path : List Part) (from to : List Mention) → EndsInKey path → IsCut path from to
    → IsTreeOf from (remove path) to
tree_cut path from to ends h q =
    let last : last_part path ≡ Some (key ends.1) = ap last_part ends.2 ∙ last_part-snoc ends.0 (key ends.1) in
    cut_by path from to h q (strip path q) refl
    ∙ ap (λ (o : Option Part). fact_from from [] (removed_by path q o)) (sym last)
