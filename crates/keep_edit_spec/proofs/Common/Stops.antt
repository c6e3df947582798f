-- The stops of a dotted key: what it says of the paths on its way. They may be repeated.
--
-- Theorems: `keyed_stops`: a key is its stops and what comes after them; `dotted_below`: all of them are dotted;
-- `repeats_below`: stops may be repeated; `dotted_prefix`: a key with a dotted mention of a path continues from it.
use Rattle.std.proofs.Common.{◌≡◌, ℕ, Bool, true, List, [], ◌∷◌, ◌++◌, map, refl, sym, ap, ◌∙◌, None, inl, inr}
use Rattle.std.proofs.lemmas.List.{map-append}
use Rattle.keep_path.specs.Path.{Part, key}
use Rattle.keep_meaning.specs.Marks.{MentionKind, dotted, Mention, below}
use Rattle.keep_meaning.specs.Meaning.{keyed_mentions}
use Rattle.keep_meaning.specs.Nodes.{is_dotted}
use Rattle.keep_edit_spec.specs.Look.{strip}
use Rattle.keep_edit_spec.proofs.Common.Runs.{AllOf, SomeOf, IsDisjoint}
use Rattle.keep_edit_spec.proofs.Common.SetLaw.{map_none, map_twice, disjoint_below}
use Rattle.keep_edit_spec.proofs.Common.Doubles.{repeatable, IsMentioned}

abbrev pub stops : List (List ℕ) → List Mention
stops [] = []
stops (f ∷ fs) = map (below (key f ∷ [])) (record { path = []; kind = dotted } ∷ stops fs)

more_keyed : (f k : List ℕ) (fs ks : List (List ℕ)) (ms : List Mention)
    → keyed_mentions (f ∷ (fs ++ k ∷ ks)) ms
    ≡ map (below (key f ∷ [])) (record { path = []; kind = dotted } ∷ keyed_mentions (fs ++ k ∷ ks) ms)
more_keyed f k [] ks ms = refl
more_keyed f k (g ∷ fs) ks ms = refl

-- a key is its stops and what comes after them
pub keyed_stops : (fs : List (List ℕ)) (k : List ℕ) (ks : List (List ℕ)) (ms : List Mention)
    → keyed_mentions (fs ++ k ∷ ks) ms ≡ stops fs ++ map (below (map key fs)) (keyed_mentions (k ∷ ks) ms)
keyed_stops [] k ks ms = sym (map_none (keyed_mentions (k ∷ ks) ms))
keyed_stops (f ∷ fs) k ks ms =
    let top : Mention = record { path = []; kind = dotted } in
    let run : List Mention = keyed_mentions (k ∷ ks) ms in
    more_keyed f k fs ks ms
    ∙ ap (λ (l : List Mention). map (below (key f ∷ [])) (top ∷ l)) (keyed_stops fs k ks ms)
    ∙ map-append (below (key f ∷ [])) (top ∷ stops fs) (map (below (map key fs)) run)
    ∙ ap (λ (l : List Mention). map (below (key f ∷ [])) (top ∷ stops fs) ++ l)
    (map_twice (key f ∷ []) (map key fs) run)

kinds_below : (P : MentionKind → Type 0) (s : List Part) (ms : List Mention) → AllOf (λ m. P m.kind) ms
    → AllOf (λ m. P m.kind) (map (below s) ms)
kinds_below P s [] h = tt
kinds_below P s (m ∷ ms) h = (h.0, kinds_below P s ms h.1)

stops_dotted : (P : MentionKind → Type 0) → P dotted → (fs : List (List ℕ)) → AllOf (λ m. P m.kind) (stops fs)
stops_dotted P h [] = tt
stops_dotted P h (f ∷ fs) =
    kinds_below P (key f ∷ []) (record { path = []; kind = dotted } ∷ stops fs) (h, stops_dotted P h fs)

-- what holds of dotted mentions holds of all of them
pub dotted_below : (P : MentionKind → Type 0) → P dotted → (s : List Part) (fs : List (List ℕ))
    → AllOf (λ m. P m.kind) (map (below s) (stops fs))
dotted_below P h s fs = kinds_below P s (stops fs) (stops_dotted P h fs)

pub repeats_below : (s : List Part) (fs : List (List ℕ))
    → AllOf (λ m. repeatable m.kind ≡ true) (map (below s) (stops fs))
repeats_below s fs = dotted_below (λ (k : MentionKind). repeatable k ≡ true) refl s fs

root_disjoint : (fs : List (List ℕ)) (k : Part) → strip (map key fs ++ k ∷ []) [] ≡ None
root_disjoint [] k = refl
root_disjoint (f ∷ fs) k = refl

pub stops_disjoint : (fs : List (List ℕ)) (k : Part) → AllOf (IsDisjoint (map key fs ++ k ∷ [])) (stops fs)
stops_disjoint [] k = tt
stops_disjoint (f ∷ fs) k =
    disjoint_below (key f ∷ []) (map key fs ++ k ∷ []) (record { path = []; kind = dotted } ∷ stops fs)
    (root_disjoint fs k, stops_disjoint fs k)

-- ---- a key that continues from a path

pub some_unbelow : (is : MentionKind → Bool) (s x : List Part) (ms : List Mention)
    → SomeOf (IsMentioned is x) (map (below s) ms) → (y : List Part) × ((x ≡ s ++ y) × SomeOf (IsMentioned is y) ms)
some_unbelow is s x [] h = absurd h
some_unbelow is s x (m ∷ ms) (inl h) = (m.path, (sym h.0, inl (refl, h.1)))
some_unbelow is s x (m ∷ ms) (inr h) = let (y, (e, g)) = some_unbelow is s x ms h in (y, (e, inr g))

pub some_mentioned_below : (is : MentionKind → Bool) (s y : List Part) (ms : List Mention)
    → SomeOf (IsMentioned is y) ms → SomeOf (IsMentioned is (s ++ y)) (map (below s) ms)
some_mentioned_below is s y [] h = absurd h
some_mentioned_below is s y (m ∷ ms) (inl h) = inl (ap (λ (q : List Part). s ++ q) h.0, h.1)
some_mentioned_below is s y (m ∷ ms) (inr h) = inr (some_mentioned_below is s y ms h)

pub record Continues (keys : List (List ℕ)) (x : List Part) : Type 0 where
  pub first : List ℕ
  pub prefix : List (List ℕ)
  pub next : List ℕ
  pub more : List (List ℕ)
  pub whole : keys ≡ (first ∷ prefix) ++ next ∷ more
  pub path : x ≡ map key (first ∷ prefix)

pub dotted_prefix : (keys : List (List ℕ)) (x : List Part) → SomeOf (IsMentioned is_dotted x) (keyed_mentions keys [])
    → Continues keys x
dotted_prefix [] x h = absurd h
dotted_prefix (k ∷ []) x h = absurd h
dotted_prefix (k ∷ l ∷ ks) x (inl h) =
    record { first = k; prefix = []; next = l; more = ks; whole = refl; path = sym h.0 }
dotted_prefix (k ∷ l ∷ ks) x (inr h) =
    let (y, (e, g)) = some_unbelow is_dotted (key k ∷ []) x (keyed_mentions (l ∷ ks) []) h in
    let d = dotted_prefix (l ∷ ks) y g in
    record {
      first = k;
      prefix = d.first ∷ d.prefix;
      next = d.next;
      more = d.more;
      whole = ap (λ (z : List (List ℕ)). k ∷ z) d.whole;
      path = e ∙ ap (λ (z : List Part). key k ∷ z) d.path;
    }
