-- With a keyval put in whose key goes by stops that are doubles, and then by a key that names no node, the rules hold,
-- and the tree has its value at its path, and elsewhere what was there.
--
-- Theorem: `keyval_put_law`.
use Rattle.std.proofs.Common.{◌≡◌, ℕ, List, [], ◌∷◌, ◌++◌, map, refl, sym, ap, subst, ◌∙◌, append_assoc, Some}
use Rattle.std.proofs.lemmas.List.{map-append}
use Rattle.keep_syntax.specs.Tree.{Name, Value, Document}
use Rattle.keep_path.specs.Path.{Part, key}
use Rattle.keep_meaning.specs.Marks.{value, item, Mention, below}
use Rattle.keep_meaning.specs.Meaning.{keys_of, body_fact, valued_mentions, keyed_mentions, entries_mentions}
use Rattle.keep_meaning.specs.Meaning.{keyval_mentions, step, mentions_in, mentions_of_value}
use Rattle.keep_meaning.specs.Nodes.{fact_at}
use Rattle.keep_edit_spec.specs.Look.{strip}
use Rattle.keep_edit_spec.proofs.Common.Runs.{AllOf, Rules, all_left, all_right, IsDisjoint}
use Rattle.keep_edit_spec.proofs.Common.SetLaw.{all_longer, map_twice, disjoint_below}
use Rattle.keep_edit_spec.proofs.Common.SetDocument.{rules_outside}
use Rattle.keep_edit_spec.proofs.Common.InsertLaw.{keyed_under, under_both, rules_keyed, head_same, KeyvalFact}
use Rattle.keep_edit_spec.proofs.Common.InsertLaw.{IsKeyvalLaw, tree_put-by}
use Rattle.keep_edit_spec.proofs.Common.Doubles.{IsDoubleOf, rules_doubled}
use Rattle.keep_edit_spec.proofs.Common.Stops.{stops, keyed_stops, stops_disjoint}

pub rules_valued : (v : Value) → Rules (mentions_of_value v)
    → Rules (valued_mentions (value (body_fact v.body)) (entries_mentions 0 v.nested))
rules_valued v h =
    (head_same (item (body_fact v.body)) (value (body_fact v.body)) (entries_mentions 0 v.nested) refl refl h.0, h.1)

-- `fs` are the stops.
pub keyval_put_law : (s s' : Document) (body : List Part) (fs : List (List ℕ)) (k : List ℕ) (ks : List (List ℕ))
    (name : Name) (v : Value) (before after : List Mention)
    → mentions_in s ≡ before ++ after → mentions_in s' ≡ before ++ (map (below body) (keyval_mentions name v) ++ after)
    → keys_of name.key ≡ fs ++ k ∷ ks
    → AllOf (IsDisjoint ((body ++ map key fs) ++ key k ∷ [])) (mentions_in s)
    → AllOf (IsDoubleOf before) (map (below body) (stops fs)) → Rules (mentions_in s) → Rules (mentions_of_value v)
    → IsKeyvalLaw s (body ++ map key (fs ++ k ∷ ks)) v s'
keyval_put_law s s' body fs k ks name v before after was now means disjoint doubles rules value_rules =
    let a : List Part = body ++ map key fs in
    let p0 : List Part = a ++ key k ∷ [] in
    let p : List Part = body ++ step 0 (Some name) in
    let vs : List Mention = valued_mentions (value (body_fact v.body)) (entries_mentions 0 v.nested) in
    let dots : List Mention = map (below body) (stops fs) in
    let run : List Mention = map (below a) (keyed_mentions (k ∷ ks) vs) in
    let shape : map (below body) (keyval_mentions name v) ≡ dots ++ run =
    ap (λ (l : List (List ℕ)). map (below body) (keyed_mentions l vs)) means
    ∙ ap (map (below body)) (keyed_stops fs k ks vs)
    ∙ map-append (below body) (stops fs) (map (below (map key fs)) (keyed_mentions (k ∷ ks) vs))
    ∙ ap (λ (l : List Mention). dots ++ l) (map_twice body (map key fs) (keyed_mentions (k ∷ ks) vs)) in
    let whole : p ≡ body ++ map key (fs ++ k ∷ ks) = ap (λ (l : List (List ℕ)). body ++ map key l) means in
    let longer : p ≡ p0 ++ map key ks =
    whole ∙ ap (λ (l : List Part). body ++ l) (map-append key fs (k ∷ ks))
    ∙ sym (append_assoc body (map key fs) (map key (k ∷ ks))) ∙ sym (append_assoc a (key k ∷ []) (map key ks)) in
    let both : AllOf (IsDisjoint p0) (before ++ after) =
    subst (λ (l : List Mention). AllOf (IsDisjoint p0) l) was disjoint in
    let far : AllOf (IsDisjoint p) (before ++ after) =
    subst (λ (x : List Part). AllOf (IsDisjoint x) (before ++ after)) (sym longer)
    (all_longer p0 (map key ks) (before ++ after) both) in
    let dots_disjoint : AllOf (IsDisjoint p0) dots =
    subst (λ (x : List Part). AllOf (IsDisjoint x) dots) (sym (append_assoc body (map key fs) (key k ∷ [])))
    (disjoint_below body (map key fs ++ key k ∷ []) (stops fs) (stops_disjoint fs (key k))) in
    let obeys : Rules (before ++ ((dots ++ run) ++ after)) =
    rules_doubled p0 before dots run after (subst Rules was rules) doubles (all_left (IsDisjoint p0) before after both)
    (all_right (IsDisjoint p0) before after both) dots_disjoint
    (under_both a (key k ∷ []) (keyed_mentions (k ∷ ks) vs) (keyed_under k ks vs))
    (rules_outside a (keyed_mentions (k ∷ ks) vs) (rules_keyed k ks vs (rules_valued v value_rules))) in
    record {
      rules = subst Rules (sym (now ∙ ap (λ (l : List Mention). before ++ (l ++ after)) shape)) obeys;
      tree = λ q. ap (fact_at q) now
          ∙ tree_put-by body name v before after (all_left (IsDisjoint p) before after far)
          (all_right (IsDisjoint p) before after far) q (strip p q) refl
          ∙ ap (λ (l : List Mention). KeyvalFact p v l q) (sym was)
          ∙ ap (λ (x : List Part). KeyvalFact x v (mentions_in s) q) whole;
    }
