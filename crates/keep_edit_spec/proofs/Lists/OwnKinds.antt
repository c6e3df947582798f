-- What a value's own line says at a path that is apart from its own: nothing.
--
-- A keyval says something at the paths of its key parts, at its path and under it (`keyed_silent`, by induction over
-- the keys). A path apart from its own is none of these. So what is said there is the same without the line.
--
-- Theorems: `keyval_silent`, `kinds_beside`.
use Rattle.std.proofs.Common.{◌≡◌, ℕ, ◌<◌, List, [], ◌∷◌, ◌++◌, length, map, sym, ap, subst, ◌∙◌, Some, None}
use Rattle.std.proofs.Common.{inl, inr}
use Rattle.keep_types.specs.declared.leaf.Profile.{Profile}
use Rattle.keep_syntax.specs.Tree.{Document, Name, Value}
use Rattle.keep_path.specs.Path.{Part, key, strip}
use Rattle.keep_meaning.specs.Marks.{Mention, MentionKind, below, dotted, start, value}
use Rattle.keep_meaning.specs.Meaning.{body_fact, entries_mentions, keyed_mentions, keys_of, keyval_mentions}
use Rattle.keep_meaning.specs.Meaning.{line_mentions, lines, lines_mentions, mentions_in, step, valued_mentions}
use Rattle.keep_meaning.specs.Nodes.{kinds_at}
use Rattle.keep_edit_spec.specs.Laws.{IsEditable}
use Rattle.keep_edit_spec.specs.Lines.{last_line}
use Rattle.keep_edit_spec.specs.Runs.{AreApart}
use Rattle.keep_edit_spec.proofs.Common.Runs.{kinds_at-append, kinds_at-below, kinds_at-under, none_or_some}
use Rattle.keep_edit_spec.proofs.Common.Runs.{strip-sound, strip_both}
use Rattle.keep_edit_spec.proofs.Common.SetDocument.{mentions_of, under_below}
use Rattle.keep_edit_spec.proofs.Lists.OwnLine as own
use Rattle.keep_edit_spec.proofs.Lists.RemovedPlaces.{mine}

-- ---- what a keyval says

-- nothing below a path, if nothing is said at what a path goes on with there
below_silent : (p q : List Part) (ms : List Mention)
    → ((r : List Part) → q ≡ p ++ r → kinds_at r ms ≡ []) → kinds_at q (map (below p) ms) ≡ []
below_silent p q ms none = elim (none_or_some (strip p q)) [
  | inl e ↦ kinds_at-under p q (map (below p) ms) (under_below p ms) e
  | inr u ↦
      let is : q ≡ p ++ u.0 = strip-sound p q u.0 u.1 in
      ap (λ (x : List Part). kinds_at x (map (below p) ms)) is ∙ kinds_at-below p u.0 ms ∙ none u.0 is
]

-- paths that are apart are so without what they both begin with
apart_after : (s p q r : List Part) → AreApart (s ++ p) q → q ≡ s ++ r → AreApart p r
apart_after s p q r apart is = (
  sym (ap (strip (s ++ p)) is ∙ strip_both s p r) ∙ apart.0,
  sym (ap (λ (x : List Part). strip x (s ++ p)) is ∙ strip_both s r p) ∙ apart.1,
)

keyed_silent : (ks : List (List ℕ)) (ms : List Mention) (q : List Part) → AreApart (map key ks) q
    → kinds_at q (keyed_mentions ks ms) ≡ []
keyed_silent [] ms q apart = let no : Some q ≡ None = apart.0 in absurd cc
keyed_silent (k ∷ []) ms q apart =
    below_silent (key k ∷ []) q ms
    (λ r is. (let no : Some r ≡ None = (apart_after (key k ∷ []) [] q r apart is).0 in absurd cc))
keyed_silent (k ∷ l ∷ ks) ms q apart =
    below_silent (key k ∷ []) q (record { path = []; kind = dotted } ∷ keyed_mentions (l ∷ ks) ms)
    (λ r is.
    by r (apart_after (key k ∷ []) (map key (l ∷ ks)) q r apart is) (λ rest. keyed_silent (l ∷ ks) ms r rest))
  where
    by : (r : List Part) → AreApart (map key (l ∷ ks)) r
        → (AreApart (map key (l ∷ ks)) r → kinds_at r (keyed_mentions (l ∷ ks) ms) ≡ [])
        → kinds_at r (record { path = []; kind = dotted } ∷ keyed_mentions (l ∷ ks) ms) ≡ []
    by [] apart silent = let no : Some (map key (l ∷ ks)) ≡ None = apart.1 in absurd cc
    by (p ∷ r) apart silent = silent apart

pub keyval_silent : (body : List Part) (name : Name) (held : Value) (q : List Part)
    → AreApart (body ++ step 0 (Some name)) q → kinds_at q (map (below body) (keyval_mentions name held)) ≡ []
keyval_silent body name held q apart =
    below_silent body q (keyval_mentions name held)
    (λ r is.
    keyed_silent (keys_of name.key) (valued_mentions (value (body_fact held.body)) (entries_mentions 0 held.nested)) r
    (apart_after body (step 0 (Some name)) q r apart is))

-- ---- the line

module _ (profile : Profile) (limit : ℕ) (s : Document) (path : List Part) (n : ℕ)
    (fine : IsEditable profile limit s) (line : last_line (mine path) start (lines s) ≡ Some n)
    (closed : n < length s.ended) (other : List Part) (apart : AreApart path other) where
  abbrev before : List Mention
  before = lines_mentions start (own.before profile limit s path n fine line closed)

  abbrev here : List Mention
  here =
      line_mentions (own.r profile limit s path n fine line closed)
      (own.c profile limit s path n fine line closed).here.line

  abbrev after : List Mention
  after =
      lines_mentions (own.r profile limit s path n fine line closed)
      (own.after profile limit s path n fine line closed)

  line_silent : kinds_at other here ≡ []
  line_silent =
      let its = own.its profile limit s path n fine line closed in
      ap (kinds_at other)
      (mentions_of (own.r profile limit s path n fine line closed)
      (own.c profile limit s path n fine line closed).here.line its.name its.held its.was)
      ∙ keyval_silent (own.r profile limit s path n fine line closed).body its.name its.held other
      (subst (λ (p : List Part). AreApart p other) (sym its.place) apart)

  pub kinds_beside : kinds_at other (own.without profile limit s path n fine line closed)
      ≡ kinds_at other (mentions_in s)
  kinds_beside =
      kinds_at-append other before after
      ∙ ap (λ (ks : List MentionKind). kinds_at other before ++ (ks ++ kinds_at other after)) (sym line_silent)
      ∙ sym (ap (kinds_at other) (own.said_was profile limit s path n fine line closed)
      ∙ kinds_at-append other before (here ++ after)
      ∙ ap (λ (ks : List MentionKind). kinds_at other before ++ ks) (kinds_at-append other here after))
