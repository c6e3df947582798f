-- The key of a new keyval in braces: what comes before it has said the same of the dots.
--
-- Theorems: `rest_name`: the key is valid; `past_stops`: an entry that goes past the dots has said it; `doubles_there`:
-- so the stops of the key are doubles.
use Rattle.std.proofs.Common.{◌≡◌, ℕ, true, false, List, [], ◌∷◌, ◌++◌, map, refl, sym, ap, subst, ◌∙◌, append_assoc}
use Rattle.std.proofs.Common.{Option, Some, None, inl, inr}
use Rattle.std.proofs.lemmas.List.{map-append, append-nil}
use Rattle.std.proofs.lemmas.List.Elements.{filter_map-append}
use Rattle.keep_types.specs.declared.leaf.Profile.{Profile}
use Rattle.keep_syntax.specs.Tree.{Name}
use Rattle.keep_syntax.specs.Grammar.{IsName}
use Rattle.keep_path.specs.Path.{Part, key}
use Rattle.keep_meaning.specs.Marks.{value, Mention, below}
use Rattle.keep_meaning.specs.Meaning.{keys_of, valued_mentions, keyed_mentions, entry_mentions, step}
use Rattle.keep_meaning.specs.Nodes.{is_dotted}
use Rattle.keep_edit_spec.specs.Look.{strip, keys_in, key_text}
use Rattle.keep_edit_spec.specs.Values.{leads_past}
use Rattle.keep_edit_spec.specs.Edits.{name_with}
use Rattle.keep_edit_spec.proofs.Common.Runs.{AllOf, SomeOf, meet, strip-sound}
use Rattle.keep_edit_spec.proofs.Insert.NewPath.{keys_of_map}
use Rattle.keep_edit_spec.proofs.Common.NewLines.{IsKeyText, valid_name, key_means}
use Rattle.keep_edit_spec.proofs.Common.Doubles.{IsSame, IsDoubleOf, doubles_left, doubles_right, doubles_self}
use Rattle.keep_edit_spec.proofs.Common.Doubles.{IsMentioned}
use Rattle.keep_edit_spec.proofs.Common.Stops.{stops, keyed_stops, repeats_below, some_mentioned_below}
use Rattle.keep_edit_spec.proofs.Insert.PutIn.{IsPast}
use Rattle.keep_edit_spec.proofs.Insert.NamedEntries.{never_index}

-- ---- the key

pub name_by : (profile : Profile) (fs : List (List ℕ)) (k : List ℕ) (ks : List (List ℕ))
    → AllOf (IsKeyText profile) (fs ++ k ∷ ks) → IsName profile (name_with (fs ++ k ∷ ks))
name_by profile [] k ks h = valid_name profile k ks h
name_by profile (f ∷ fs) k ks h = valid_name profile f (fs ++ k ∷ ks) h

pub means_by : (profile : Profile) (fs : List (List ℕ)) (k : List ℕ) (ks : List (List ℕ))
    → AllOf (IsKeyText profile) (fs ++ k ∷ ks) → keys_of (name_with (fs ++ k ∷ ks)).key ≡ fs ++ k ∷ ks
means_by profile [] k ks h = key_means profile k ks h
means_by profile (f ∷ fs) k ks h = key_means profile f (fs ++ k ∷ ks) h

pub rest_keys : (dots : List Part) (k : List ℕ) (ks : List (List ℕ))
    → keys_in (dots ++ map key (k ∷ ks)) ≡ keys_in dots ++ k ∷ ks
rest_keys dots k ks =
    filter_map-append key_text dots (map key (k ∷ ks))
    ∙ ap (λ (l : List (List ℕ)). keys_in dots ++ l) (keys_of_map (k ∷ ks))

pub rest_name : (profile : Profile) (dots : List Part) (k : List ℕ) (ks : List (List ℕ))
    → AllOf (IsKeyText profile) (keys_in (dots ++ map key (k ∷ ks)))
    → IsName profile (name_with (keys_in (dots ++ map key (k ∷ ks))))
rest_name profile dots k ks texts =
    subst (λ (l : List (List ℕ)). IsName profile (name_with l)) (sym (rest_keys dots k ks))
    (name_by profile (keys_in dots) k ks (subst (AllOf (IsKeyText profile)) (rest_keys dots k ks) texts))

-- keys of which the first lie on a path and the others beyond it
pub record IsKeySplit (keys : List (List ℕ)) (x : List Part) : Type 0 where
  pub prefixes : List (List ℕ)
  pub next : List ℕ
  pub more : List (List ℕ)
  pub path : x ≡ map key prefixes
  pub whole : keys ≡ prefixes ++ next ∷ more

pub key_split : (keys : List (List ℕ)) (x : List Part) (q : Part) (qs : List Part) → map key keys ≡ x ++ q ∷ qs
    → IsKeySplit keys x
key_split [] [] q qs e = absurd cc
key_split [] (p ∷ x) q qs e = absurd cc
key_split (k ∷ keys) [] q qs e = record { prefixes = []; next = k; more = keys; path = refl; whole = refl }
key_split (k ∷ keys) (p ∷ x) q qs e =
    let one : key k ≡ p = cc in
    let h = key_split keys x q qs (let m : map key keys ≡ x ++ q ∷ qs = cc in m) in
    record {
      prefixes = k ∷ h.prefixes;
      next = h.next;
      more = h.more;
      path = ap (λ (y : Part). y ∷ x) (sym one) ∙ ap (λ (y : List Part). key k ∷ y) h.path;
      whole = ap (λ (y : List (List ℕ)). k ∷ y) h.whole;
    }

pub past_sound : (d : Part) (ds : List Part) (name : Option Name) → leads_past (d ∷ ds) name ≡ true
    → (q : Part) × (qs : List Part) × (step 0 name ≡ (d ∷ ds) ++ q ∷ qs)
past_sound d ds name h = by (strip (d ∷ ds) (step 0 name)) refl h
  where
    by : (o : Option (List Part)) → strip (d ∷ ds) (step 0 name) ≡ o
        → elim o [ None ↦ false | Some more ↦ elim more [ [] ↦ false | q ∷ qs ↦ true ] ] ≡ true
        → (q : Part) × (qs : List Part) × (step 0 name ≡ (d ∷ ds) ++ q ∷ qs)
    by None e k = absurd cc
    by (Some []) e k = absurd cc
    by (Some (q ∷ qs)) e k = (q, qs, strip-sound (d ∷ ds) (step 0 name) (q ∷ qs) e)

-- ---- the stops are doubles

-- What comes before the new keyval has said the same of the dots.
pub record AreStops (dots : List Part) (before : List Mention) : Type 0 where
  pub keys : List (List ℕ)
  pub is : dots ≡ map key keys
  pub earlier : List Mention
  pub later : List Mention
  pub whole : before ≡ earlier ++ (stops keys ++ later)

pub no_stops : (before : List Mention) → AreStops [] before
no_stops before = record { keys = []; is = refl; earlier = before; later = []; whole = sym (append-nil before) }

pub past_stops : (dots : List Part) (before : List Mention) → IsPast dots before → AreStops dots before
past_stops [] before h = no_stops before
past_stops (d ∷ ds) before h = by h.name refl (past_sound d ds h.name h.goes)
  where
    by : (name : Option Name) → h.name ≡ name → (q : Part) × (qs : List Part) × (step 0 h.name ≡ (d ∷ ds) ++ q ∷ qs)
        → AreStops (d ∷ ds) before
    by None e w = absurd (never_index 0 d ds w.0 w.1 (ap (step 0) (sym e) ∙ w.2))
    by (Some name) e w =
        let vs : List Mention = valued_mentions (value h.fact) h.nested in
        let c : IsKeySplit (keys_of name.key) (d ∷ ds) =
        key_split (keys_of name.key) (d ∷ ds) w.0 w.1 (ap (step 0) (sym e) ∙ w.2) in
        record {
          keys = c.prefixes;
          is = c.path;
          earlier = h.earlier;
          later = map (below (map key c.prefixes)) (keyed_mentions (c.next ∷ c.more) vs);
          whole = h.whole ∙ ap (λ (l : List Mention). h.earlier ++ l)
              (ap (λ (o : Option Name). entry_mentions h.number o h.fact h.nested) e
              ∙ ap (λ (l : List (List ℕ)). keyed_mentions l vs) c.whole ∙ keyed_stops c.prefixes c.next c.more vs);
        }

pub doubles_there : (at dots : List Part) (left before : List Mention) (m : Mention) (a : AreStops dots before)
    → AllOf (IsDoubleOf (left ++ map (below at) (m ∷ before))) (map (below at) (stops a.keys))
doubles_there at dots left before m a =
    let run : List Mention = map (below at) (stops a.keys) in
    let later : List Mention = map (below at) a.later in
    let shape : left ++ map (below at) (m ∷ before) ≡ (left ++ map (below at) (m ∷ a.earlier)) ++ (run ++ later) =
    ap (λ (l : List Mention). left ++ map (below at) (m ∷ l)) a.whole
    ∙ ap (λ (l : List Mention). left ++ l)
    (map-append (below at) (m ∷ a.earlier) (stops a.keys ++ a.later)
    ∙ ap (λ (l : List Mention). map (below at) (m ∷ a.earlier) ++ l) (map-append (below at) (stops a.keys) a.later))
    ∙ sym (append_assoc left (map (below at) (m ∷ a.earlier)) (run ++ later)) in
    subst (λ (l : List Mention). AllOf (IsDoubleOf l) run) (sym shape)
    (doubles_right (left ++ map (below at) (m ∷ a.earlier)) (run ++ later) run
    (doubles_left run later run (doubles_self run (repeats_below at a.keys))))

pub last_stop : (f : List ℕ) (fs : List (List ℕ)) → SomeOf (IsMentioned is_dotted (map key (f ∷ fs))) (stops (f ∷ fs))
last_stop f [] = inl (refl, refl)
last_stop f (g ∷ fs) =
    inr (some_mentioned_below is_dotted (key f ∷ []) (map key (g ∷ fs)) (stops (g ∷ fs)) (last_stop g fs))

pub again : (h : List Part) (before run : List Mention) → AllOf (IsDoubleOf before) run
    → SomeOf (IsMentioned is_dotted h) run → SomeOf (IsMentioned is_dotted h) before
again h before run doubles s =
    let (m, mentioned, double) = meet (IsMentioned is_dotted h) (IsDoubleOf before) run s doubles in
    carry before m.path m.kind mentioned.0 mentioned.1 double.same
  where
    carry : (ms : List Mention) (p : List Part) (mention_kind : _) → p ≡ h → is_dotted mention_kind ≡ true
        → SomeOf (IsSame (record { path = p; kind = mention_kind })) ms → SomeOf (IsMentioned is_dotted h) ms
    carry [] p mention_kind e d s = absurd s
    carry (x ∷ ms) p mention_kind e d (inl s) = inl (s.path ∙ e, ap is_dotted s.kind ∙ d)
    carry (x ∷ ms) p mention_kind e d (inr s) = inr (carry ms p mention_kind e d s)
