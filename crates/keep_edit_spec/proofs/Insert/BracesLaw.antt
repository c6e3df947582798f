-- A keyval put into braces: its rules and its tree.
--
-- The edit puts the keyval's mentions in among those of the document, and changes no other (`was`, `now`): the entries
-- after it have names, so their mentions don't depend on their numbers (`renumbered`). The keyval's key goes along the
-- dots first. If there are dots, the braces are not empty, and the entry before the keyval goes along them as well
-- (`there`). So what the key mentions up to there only repeats earlier mentions (`doubles`), and what comes after names
-- no node: from that `keyval_put_law` gives rules and tree. The table that takes the keyval is not one that only
-- headers make: with dots, an entry mentions it by dots (`last_stop`), and with none, it is the value in braces, which
-- has a fact.
--
-- Theorems: `law_there`: the rules and the tree; `plain_there`: the table is not made by headers alone.
use Rattle.std.proofs.Common.{◌≡◌, ℕ, ◌+◌, Bool, true, false, not, ◌&&◌, ◌||◌, List, [], ◌∷◌, ◌++◌, length, map, refl}
use Rattle.std.proofs.Common.{sym, ap, subst, ◌∙◌, append_assoc, Option, Some, None, ◌⊎◌, inl, inr}
use Rattle.std.proofs.lemmas.List.{map-append, append-nil}
use Rattle.keep_types.specs.declared.leaf.Profile.{Profile}
use Rattle.keep_syntax.specs.Tree.{Name, Entries, none, entry, Value, Document}
use Rattle.keep_syntax.specs.Grammar.{AreEntries, in_inline}
use Rattle.keep_meaning.specs.Fact.{Fact}
use Rattle.keep_path.specs.Path.{Part, key}
use Rattle.keep_meaning.specs.Marks.{Mention, below}
use Rattle.keep_meaning.specs.Meaning.{keys_of, body_fact, valued_mentions, entries_mentions, keyval_mentions}
use Rattle.keep_meaning.specs.Meaning.{mentions_in, mentions_of_value}
use Rattle.keep_meaning.specs.Nodes.{is_root, has, is_define, is_begun, is_dotted}
use Rattle.keep_edit_spec.specs.Look.{keys_in}
use Rattle.keep_edit_spec.specs.Values.{put_named}
use Rattle.keep_edit_spec.specs.Edits.{name_with}
use Rattle.keep_edit_spec.specs.Trees.{has_fact, is_through_alone}
use Rattle.keep_edit_spec.proofs.Common.Runs.{AllOf, SomeOf, some_left, Rules, IsDisjoint}
use Rattle.keep_edit_spec.proofs.Common.SetLaw.{EachTo}
use Rattle.keep_edit_spec.proofs.Insert.NewPath.{keys_of_map}
use Rattle.keep_edit_spec.proofs.Common.NewLines.{IsKeyText}
use Rattle.keep_edit_spec.proofs.Common.InsertLaw.{IsKeyvalLaw}
use Rattle.keep_edit_spec.proofs.Remove.RemoveInValue.{renumbered}
use Rattle.keep_edit_spec.proofs.Common.Doubles.{IsDoubleOf, IsMentioned, some_has}
use Rattle.keep_edit_spec.proofs.Common.Stops.{stops, some_mentioned_below}
use Rattle.keep_edit_spec.proofs.Insert.Gives.{IsNamedAt}
use Rattle.keep_edit_spec.proofs.Insert.DoneThere.{IsDoneThere}
use Rattle.keep_edit_spec.proofs.Insert.PutIn.{IsPast}
use Rattle.keep_edit_spec.proofs.Insert.PutValue.{IsNamedPut}
use Rattle.keep_edit_spec.proofs.Insert.KeyvalPut.{keyval_put_law}
use Rattle.keep_edit_spec.proofs.Insert.BracesPlace.{is_inline, entries_inline, IsBracesPlace, put_by}
use Rattle.keep_edit_spec.proofs.Insert.BracesStops.{means_by, rest_keys, rest_name, AreStops, no_stops, past_stops}
use Rattle.keep_edit_spec.proofs.Insert.BracesStops.{doubles_there, last_stop, again}

regroup : (f : Mention → Mention) (left x y right : List Mention) (m : Mention)
    → left ++ (map f (m ∷ (x ++ y)) ++ right) ≡ (left ++ map f (m ∷ x)) ++ (map f y ++ right)
regroup f left x y right m =
    ap (λ (l : List Mention). left ++ (l ++ right)) (map-append f (m ∷ x) y)
    ∙ ap (λ (l : List Mention). left ++ l) (append_assoc (map f (m ∷ x)) (map f y) right)
    ∙ sym (append_assoc left (map f (m ∷ x)) (map f y ++ right))

regroup_more : (f : Mention → Mention) (left x y z right : List Mention) (m : Mention)
    → left ++ (map f (m ∷ (x ++ (y ++ z))) ++ right) ≡ (left ++ map f (m ∷ x)) ++ (map f y ++ (map f z ++ right))
regroup_more f left x y z right m =
    regroup f left x (y ++ z) right m
    ∙ ap (λ (l : List Mention). (left ++ map f (m ∷ x)) ++ l)
    (ap (λ (l : List Mention). l ++ right) (map-append f y z) ∙ append_assoc (map f y) (map f z) right)

not_alone : (a b c d : Bool) → (c ≡ true) ⊎ (d ≡ true) → (not a && not (b || (c || d))) ≡ false
not_alone true b c d h = refl
not_alone false true c d h = refl
not_alone false false c d (inl h) = rw h refl
not_alone false false true d (inr h) = refl
not_alone false false false d (inr h) = rw h refl

module _ (profile : Profile) (s : Document) (at dots : List Part) (k : List ℕ) (ks : List (List ℕ))
    (place : IsBracesPlace s at dots k) (new : Value) (rules : Rules (mentions_in s))
    (new_rules : Rules (mentions_of_value new))
    (texts : AllOf (IsKeyText profile) (keys_in (dots ++ map key (k ∷ ks))))
    (d : IsDoneThere profile is_inline (put_named name_with (length (map key (k ∷ ks))) new)
    (dots ++ map key (k ∷ ks)) at s) where
  abbrev name : Name
  name = name_with (keys_in (dots ++ map key (k ∷ ks)))

  put : IsNamedPut dots name new d.old d.done.to
  put = subst (EachTo (IsNamedPut dots name new d.old)) d.by (put_by profile s at dots k ks place new d.old d.fit)

  abbrev root : Mention
  root = record { path = []; kind = d.tag (body_fact d.old.body) }

  abbrev before : List Mention
  before = d.before ++ map (below at) (root ∷ put.put.before)

  abbrev after : List Mention
  after = map (below at) (entries_mentions put.put.number put.put.rest) ++ d.after

  was : mentions_in s ≡ before ++ after
  was = d.was ∙ ap (λ (l : List Mention). d.before ++ (map (below at) (root ∷ l) ++ d.after)) put.put.was
      ∙ regroup (below at) d.before put.put.before (entries_mentions put.put.number put.put.rest) d.after root

  now : mentions_in d.changed.to ≡ before ++ (map (below at) (keyval_mentions name new) ++ after)
  now =
      let rest : Entries = put.put.rest in
      let n : ℕ = put.put.number in
      let valid : AreEntries profile in_inline rest =
      put.put.valid profile in_inline (entries_inline profile d.old d.fit d.old_valid) in
      let same : entries_mentions (n + 1) rest ≡ entries_mentions n rest =
      renumbered profile in_inline name rest (n + 1) n (rest_name profile dots k ks texts) valid in
      d.now
      ∙ ap (λ (f : Fact).
      d.before ++ (map (below at) (valued_mentions (d.tag f) (entries_mentions 0 d.done.to.nested)) ++ d.after))
      put.fact
      ∙ ap (λ (l : List Mention). d.before ++ (map (below at) (root ∷ l) ++ d.after))
      (put.put.is ∙ ap (λ (l : List Mention). put.put.before ++ (keyval_mentions name new ++ l)) same)
      ∙ regroup_more (below at) d.before put.put.before (keyval_mentions name new) (entries_mentions n rest) d.after
      root

  none_named : (es : Entries) → es ≡ none → SomeOf (IsNamedAt dots) (entries_mentions 0 es) → ⊥
  none_named none e x = x
  none_named (entry a b c e f g) h x = absurd cc

  there : AreStops dots put.put.before
  there = by dots refl put.past
    where
      by : (x : List Part) → dots ≡ x → (d.old.nested ≡ none) ⊎ IsPast dots put.put.before
          → AreStops dots put.put.before
      by x e (inr past) = past_stops dots put.put.before past
      by [] e (inl empty) = subst (λ (y : List Part). AreStops y put.put.before) (sym e) (no_stops put.put.before)
      by (p ∷ ps) e (inl empty) = elim (d.names dots place.named) [
        | inl top ↦ (let z : [] ≡ p ∷ ps = top ∙ e in absurd cc)
        | inr deep ↦ absurd (none_named d.old.nested empty deep)
      ]

  doubles : AllOf (IsDoubleOf before) (map (below at) (stops there.keys))
  doubles = doubles_there at dots d.before put.put.before root there

  own_keys : keys_in (dots ++ map key (k ∷ ks)) ≡ there.keys ++ k ∷ ks
  own_keys =
      rest_keys dots k ks ∙ ap (λ (l : List (List ℕ)). l ++ k ∷ ks) (ap keys_in there.is ∙ keys_of_map there.keys)

  pub law_there : IsKeyvalLaw s (at ++ (dots ++ map key (k ∷ ks))) new d.changed.to
  law_there =
      let means : keys_of name.key ≡ there.keys ++ k ∷ ks =
      ap (λ (l : List (List ℕ)). keys_of (name_with l).key) own_keys
      ∙ means_by profile there.keys k ks (subst (AllOf (IsKeyText profile)) own_keys texts) in
      let whole : at ++ map key (there.keys ++ k ∷ ks) ≡ at ++ (dots ++ map key (k ∷ ks)) =
      ap (λ (l : List Part). at ++ l)
      (map-append key there.keys (k ∷ ks) ∙ ap (λ (l : List Part). l ++ map key (k ∷ ks)) (sym there.is)) in
      subst (λ (p : List Part). IsKeyvalLaw s p new d.changed.to) whole
      (keyval_put_law s d.changed.to at there.keys k ks name new before after was now means
      (subst (λ (x : List Part). AllOf (IsDisjoint ((at ++ x) ++ key k ∷ [])) (mentions_in s)) there.is place.fresh)
      doubles rules new_rules)

  -- the table is none that only headers make
  pub plain_there : is_through_alone (at ++ dots) (mentions_in s) ≡ false
  plain_there =
      let h : List Part = at ++ dots in
      let ms : List Mention = mentions_in s in
      not_alone (is_root h) (has is_define h ms || has is_begun h ms) (has is_dotted h ms) (has_fact h ms)
      (by there.keys refl)
    where
      by : (l : List (List ℕ)) → there.keys ≡ l
          → (has is_dotted (at ++ dots) (mentions_in s) ≡ true) ⊎ (has_fact (at ++ dots) (mentions_in s) ≡ true)
      by [] e =
          let whole : at ++ dots ≡ at = ap (λ (x : List Part). at ++ x) (there.is ∙ ap (map key) e) ∙ append-nil at in
          inr (ap (λ (x : List Part). has_fact x (mentions_in s)) whole
          ∙ ap (λ (o : Option Fact). elim o [ None ↦ false | Some f ↦ true ]) place.here)
      by (f ∷ fs) e =
          let run : List Mention = map (below at) (stops there.keys) in
          let last : SomeOf (IsMentioned is_dotted (at ++ map key there.keys)) run =
          some_mentioned_below is_dotted at (map key there.keys) (stops there.keys)
          (subst (λ (l : List (List ℕ)). SomeOf (IsMentioned is_dotted (map key l)) (stops l)) (sym e)
          (last_stop f fs)) in
          let here : SomeOf (IsMentioned is_dotted (at ++ dots)) run =
          subst (λ (x : List Part). SomeOf (IsMentioned is_dotted (at ++ x)) run) (sym there.is) last in
          inl (some_has is_dotted (at ++ dots) (mentions_in s)
          (subst (SomeOf (IsMentioned is_dotted (at ++ dots))) (sym was)
          (some_left (IsMentioned is_dotted (at ++ dots)) before after (again (at ++ dots) before run doubles here))))
