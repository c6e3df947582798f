-- A key in braces renamed, seen from the document: it says the same, with the paths changed.
--
-- Theorems: `mentions_renamed`: that; `snoc_of`: a path that is not empty has a last part.
use Rattle.std.proofs.Common.{◌≡◌, ℕ, List, [], ◌∷◌, ◌++◌, map, refl, sym, ap, subst, ◌∙◌, append_assoc}
use Rattle.std.proofs.lemmas.List.{map-append}
use Rattle.keep_syntax.specs.Tree.{Value}
use Rattle.keep_meaning.specs.Fact.{Fact}
use Rattle.keep_path.specs.Path.{Part, key, moved_path}
use Rattle.keep_meaning.specs.Marks.{MentionKind, Mention, below}
use Rattle.keep_meaning.specs.Meaning.{body_fact, entries_mentions}
use Rattle.keep_edit_spec.specs.Look.{without_last}
use Rattle.keep_edit_spec.proofs.Common.Runs.{AllOf, IsDisjoint}
use Rattle.keep_edit_spec.proofs.Common.SetLaw.{all_longer}
use Rattle.keep_edit_spec.proofs.Common.LineLaws.{EndsInKey, last_from, last_snoc}
use Rattle.keep_edit_spec.proofs.Common.Moves.{moved}
use Rattle.keep_edit_spec.proofs.Common.Cuts.{without_last-snoc}
use Rattle.keep_edit_spec.proofs.Common.InValue.{tagged, IsDoneAt}
use Rattle.keep_edit_spec.proofs.Rename.RenamedPath.{IsBeside, ends_old, moved_disjoint, moved_below}
use Rattle.keep_edit_spec.proofs.Rename.RenameOnce.{Once, once_left, once_right, once_below}
use Rattle.keep_edit_spec.proofs.Rename.RenameContent.{root_renamed}
use Rattle.keep_edit_spec.proofs.Rename.RenameEntry.{IsRenamedTo}

-- a path that is not empty has a last part
pub snoc_of : (q : Part) (qs : List Part) → (prefix : List Part) × (last : Part) × (q ∷ qs ≡ prefix ++ last ∷ [])
snoc_of q [] = ([], q, refl)
snoc_of q (r ∷ rs) = let h = snoc_of r rs in (q ∷ h.0, h.1, ap (λ l. q ∷ l) h.2)

-- the rest of a path ends in what the path ends in
pub ends_later : (prefix rest p : List Part) → p ≡ prefix ++ rest → EndsInKey p → (rest ≡ [] → ⊥) → EndsInKey rest
ends_later prefix [] p whole ends filled = absurd (filled refl)
ends_later prefix (q ∷ qs) p whole ends filled =
    let (init, z, e) = snoc_of q qs in
    let path : (prefix ++ init) ++ z ∷ [] ≡ ends.0 ++ key ends.1 ∷ [] =
    append_assoc prefix init (z ∷ []) ∙ ap (λ l. prefix ++ l) (sym e) ∙ sym whole ∙ ends.2 in
    let last : z ≡ key ends.1 =
    sym (last_snoc z z (prefix ++ init)) ∙ ap (last_from z) path ∙ last_snoc z (key ends.1) ends.0 in
    (init, ends.1, e ∙ ap (λ x. init ++ x ∷ []) last)

-- the rest of the path, and the one beside it
pub record IsRestBeside (t : List ℕ) (prefix rest b : List Part) : Type 0 where
  pub other : List Part
  pub whole : b ≡ prefix ++ other
  pub beside : IsBeside t rest other

pub rest_beside : (t : List ℕ) (prefix rest p b : List Part) (q : Part) (qs : List Part) → IsBeside t p b
    → p ≡ prefix ++ rest → rest ≡ q ∷ qs → IsRestBeside t prefix rest b
rest_beside t prefix rest p b q qs h whole filled =
    let (init, z, ends) = snoc_of q qs in
    let here : rest ≡ init ++ z ∷ [] = filled ∙ ends in
    let path : (prefix ++ init) ++ z ∷ [] ≡ h.prefix ++ key h.old ∷ [] =
    append_assoc prefix init (z ∷ []) ∙ ap (λ l. prefix ++ l) (sym here) ∙ sym whole ∙ h.was in
    let first : prefix ++ init ≡ h.prefix =
    sym (without_last-snoc (prefix ++ init) z) ∙ ap without_last path ∙ without_last-snoc h.prefix (key h.old) in
    let last : z ≡ key h.old =
    sym (last_snoc z z (prefix ++ init)) ∙ ap (last_from z) path ∙ last_snoc z (key h.old) h.prefix in
    record {
      other = init ++ key t ∷ [];
      whole = h.is ∙ ap (λ l. l ++ key t ∷ []) (sym first) ∙ append_assoc prefix init (key t ∷ []);
      beside = record { prefix = init; old = h.old; was = here ∙ ap (λ x. init ++ x ∷ []) last; is = refl };
    }

tagged_mentions : (t : List ℕ) (tag : Fact → MentionKind) (rest other : List Part) (from to : Value)
    → IsBeside t rest other → body_fact to.body ≡ body_fact from.body
    → entries_mentions 0 to.nested ≡ map (moved (moved_path rest other)) (entries_mentions 0 from.nested)
    → map (moved (moved_path rest other)) (tagged tag from) ≡ tagged tag to
tagged_mentions t tag rest other from to beside fact mentioned =
    ap (λ (q : List Part).
    record { path = q; kind = tag (body_fact from.body) }
    ∷ map (moved (moved_path rest other)) (entries_mentions 0 from.nested))
    (root_renamed rest other (ends_old t rest other beside))
    ∙ ap (λ f.
    record { path = []; kind = tag f } ∷ map (moved (moved_path rest other)) (entries_mentions 0 from.nested))
    (sym fact)
    ∙ ap (λ l. record { path = []; kind = tag (body_fact to.body) } ∷ l) (sym mentioned)

pub mentions_renamed : (t : List ℕ) (prefix p b : List Part) (from to : List Mention) → IsBeside t p b → Once p from
    → (h : IsDoneAt (IsRenamedTo t) prefix p from to) → to ≡ map (moved (moved_path p b)) from
mentions_renamed t prefix p b from to beside once h =
    let r = rest_beside t prefix h.rest p b h.done.head h.done.tail beside h.whole h.done.filled in
    let f : List Part → List Part = moved_path p b in
    let old : List Mention = tagged h.tag h.old in
    let now : List Mention = tagged h.tag h.now in
    let all : Once p (h.before ++ (map (below prefix) old ++ h.after)) = subst (Once p) h.was once in
    let mid : Once p (map (below prefix) old) =
    once_left p (map (below prefix) old) h.after (once_right p h.before (map (below prefix) old ++ h.after) all) in
    let inner : Once h.rest old =
    once_below prefix h.rest old (subst (λ x. Once x (map (below prefix) old)) h.whole mid) in
    let moves : map (moved (moved_path (prefix ++ h.rest) (prefix ++ r.other))) (map (below prefix) old)
    ≡ map (below prefix) now =
    moved_below prefix h.rest r.other old
    ∙ ap (map (below prefix)) (tagged_mentions t h.tag h.rest r.other h.old h.now r.beside h.done.fact
    (h.done.mentioned r.other r.beside inner.1)) in
    let moves_all : map (moved f) (map (below prefix) old) ≡ map (below prefix) now =
    ap (λ x. map (moved (moved_path x b)) (map (below prefix) old)) h.whole
    ∙ ap (λ x. map (moved (moved_path (prefix ++ h.rest) x)) (map (below prefix) old)) r.whole ∙ moves in
    let before : map (moved f) h.before ≡ h.before =
    moved_disjoint p b h.before (subst (λ x. AllOf (IsDisjoint x) h.before) (sym h.whole)
    (all_longer prefix h.rest h.before h.disjoint_before)) in
    let after : map (moved f) h.after ≡ h.after =
    moved_disjoint p b h.after (subst (λ x. AllOf (IsDisjoint x) h.after) (sym h.whole)
    (all_longer prefix h.rest h.after h.disjoint_after)) in
    h.is
    ∙ ap (λ x. x ++ (map (below prefix) now ++ h.after)) (sym before)
    ∙ ap (λ x. map (moved f) h.before ++ (x ++ h.after)) (sym moves_all)
    ∙ ap (λ x. map (moved f) h.before ++ (map (moved f) (map (below prefix) old) ++ x)) (sym after)
    ∙ ap (λ x. map (moved f) h.before ++ x) (sym (map-append (moved f) (map (below prefix) old) h.after))
    ∙ sym (map-append (moved f) h.before (map (below prefix) old ++ h.after))
    ∙ ap (map (moved f)) (sym h.was)
