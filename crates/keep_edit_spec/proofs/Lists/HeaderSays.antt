-- What a header says: nothing of a path that its keys do not lead to, and of no path that it is an array or inline.
--
-- A header says something of the paths on its way, of its own, and of the element that it begins. The keys in each are
-- the first ones of its keys (`way`, `table_own`, `element_own`). So it says nothing of a path whose keys are not
-- (`nothing_there`), and none of its key parts leads to such a path (`not_named`). What it says of any path states at
-- most a table, so as many arrays and inline tables are known as before (`bracket_same`).
--
-- Theorems: `table_own`, `element_own`; `not_at`, `nothing_there`, `kinds_same`, `bracket_same`, `not_named`.
use Rattle.std.proofs.Common.{◌≡◌, ℕ, Bool, true, false, cond, List, [], ◌∷◌, ◌++◌, map, refl, sym, ap, ◌∙◌, Option}
use Rattle.std.proofs.Common.{Some, None}
use Rattle.std.specs.Prelude.{◌==◌, position}
use Rattle.std.specs.List.{cons_option, filter_map}
use Rattle.std.proofs.lemmas.List.{append-nil, map-append}
use Rattle.std.proofs.lemmas.List.Elements.{filter_map-append}
use Rattle.keep_path.specs.Path.{Part, index, key, same_path, strip}
use Rattle.keep_meaning.specs.Fact.{Fact}
use Rattle.keep_meaning.specs.Marks as marks_of
use Rattle.keep_meaning.specs.Marks.{Mention, MentionKind, Reading, begun, define, element, elements_of, entered_path}
use Rattle.keep_meaning.specs.Marks.{fact_of, header_path, header_prefixes, passed, passing_mentions, past}
use Rattle.keep_meaning.specs.Marks.{statement_mentions, through}
use Rattle.keep_meaning.specs.Nodes.{fact_at, first_of, is_at, kinds_at}
use Rattle.keep_edit_spec.specs.Lines.{key_prefixes}
use Rattle.keep_edit_spec.specs.Look.{is_bracket_at, key_text, keys_in}
use Rattle.keep_edit_spec.specs.Runs.{PassesBy}
use Rattle.keep_edit_spec.proofs.Common.EntryDepths.{bracket_of}
use Rattle.keep_edit_spec.proofs.Common.Runs.{AllOf, all_join, kinds_at-append, meet, same_path-sound, strip-append}
use Rattle.keep_edit_spec.proofs.Common.SetLaw.{IsSolidAt}
use Rattle.keep_edit_spec.proofs.Common.ValueThere.{fact_head, fact_past}
use Rattle.keep_edit_spec.proofs.Insert.HeaderPrefixes.{path_keys}
use Rattle.keep_edit_spec.proofs.Lists.HeaderApart.{entered_keys, keys_split}
use Rattle.keep_edit_spec.proofs.Rename.RenamedParts.{header_position, part_solid}

-- The keys in the path are the first of these keys, and no value is stated.
pub record IsOfHeader (keys : List (List ℕ)) (m : Mention) : Type 0 where
  pub rest : List (List ℕ)
  pub is : keys ≡ keys_in m.path ++ rest
  pub plain : bracket_of (fact_of m.kind) ≡ false

-- ---- all that a header says

passing : (tables : List (List Part)) (p : List Part) (all rest : List (List ℕ)) → all ≡ keys_in p ++ rest
    → (b : Bool) → AllOf (IsOfHeader all) (cond b (record { path = p; kind = through } ∷ [])
    (record { path = p; kind = past } ∷ record { path = entered_path tables p; kind = passed } ∷ []))
passing tables p all rest e true = (record { rest = rest; is = e; plain = refl }, tt)
passing tables p all rest e false = (
  record { rest = rest; is = e; plain = refl },
  (
    record {
      rest = rest;
      is = e ∙ ap (λ (x : List (List ℕ)). x ++ rest) (sym (entered_keys tables p));
      plain = refl;
    },
    tt,
  ),
)

way : (tables : List (List Part)) (all : List (List ℕ)) (at : List Part) (keys : List (List ℕ))
    → keys_in at ++ keys ≡ all → AllOf (IsOfHeader all) (header_prefixes tables at keys)
way tables all at [] e = tt
way tables all at (k ∷ []) e = tt
way tables all at (k ∷ l ∷ ks) e =
    let p : List Part = at ++ key k ∷ [] in
    let whole : all ≡ keys_in p ++ l ∷ ks = keys_split at k (l ∷ ks) all e in
    all_join (IsOfHeader all) (passing_mentions tables p) (header_prefixes tables (entered_path tables p) (l ∷ ks))
    (passing tables p all (l ∷ ks) whole (0 == elements_of p tables))
    (way tables all (entered_path tables p) (l ∷ ks)
    (ap (λ (x : List (List ℕ)). x ++ l ∷ ks) (entered_keys tables p) ∙ sym whole))

module _ (tables : List (List Part)) (k : List ℕ) (ks : List (List ℕ)) where
  abbrev path : List Part
  path = header_path tables [] (k ∷ ks)

  -- the header's own path, of which it says this
  own_end : (mention_kind : MentionKind) → bracket_of (fact_of mention_kind) ≡ false
      → IsOfHeader (k ∷ ks) (record { path = path; kind = mention_kind })
  own_end mention_kind h =
      record { rest = []; is = sym (append-nil (keys_in path) ∙ path_keys tables [] k ks); plain = h }

  pub table_own : (body : List Part)
      → AllOf (IsOfHeader (k ∷ ks)) (statement_mentions (record { tables = tables; body = body })
      (marks_of.header (k ∷ ks)))
  table_own body =
      all_join (IsOfHeader (k ∷ ks)) (header_prefixes tables [] (k ∷ ks)) (record { path = path; kind = define } ∷ [])
      (way tables (k ∷ ks) [] (k ∷ ks) refl) (own_end define refl, tt)

  pub element_own : (body : List Part)
      → AllOf (IsOfHeader (k ∷ ks)) (statement_mentions (record { tables = tables; body = body })
      (marks_of.element_header (k ∷ ks)))
  element_own body =
      let n : ℕ = elements_of path tables in
      let begins : IsOfHeader (k ∷ ks) (record { path = path ++ index n ∷ []; kind = begun }) =
      record {
        rest = [];
        is = sym (append-nil (keys_in (path ++ index n ∷ [])) ∙ filter_map-append key_text path (index n ∷ [])
            ∙ append-nil (keys_in path) ∙ path_keys tables [] k ks);
        plain = refl;
      } in
      all_join (IsOfHeader (k ∷ ks)) (header_prefixes tables [] (k ∷ ks))
      (record { path = path; kind = element } ∷ record { path = path ++ index n ∷ []; kind = begun } ∷ [])
      (way tables (k ∷ ks) [] (k ∷ ks) refl) (own_end element refl, (begins, tt))

-- ---- a path that the keys do not lead to

pub not_at : (keys : List (List ℕ)) (q : List Part) (m : Mention) → PassesBy keys q → IsOfHeader keys m → m.path ≡ q → ⊥
not_at keys q m clear h same =
    let own : List Part = map key (keys_in q) in
    let some : strip own (map key keys) ≡ Some (map key h.rest) =
    ap (λ (x : List (List ℕ)). strip own (map key x))
    (h.is ∙ ap (λ (p : List Part). keys_in p ++ h.rest) same)
    ∙ ap (strip own) (map-append key (keys_in q) h.rest) ∙ strip-append own (map key h.rest) in
    let no : None ≡ Some (map key h.rest) = sym clear ∙ some in
    absurd cc

pub nothing_there : (keys : List (List ℕ)) (q : List Part) (own : List Mention) → PassesBy keys q
    → AllOf (IsOfHeader keys) own → kinds_at q own ≡ []
nothing_there keys q [] clear h = refl
nothing_there keys q (m ∷ own) clear h = by (is_at q m) refl (nothing_there keys q own clear h.1)
  where
    by : (b : Bool) → is_at q m ≡ b → kinds_at q own ≡ [] → kinds_at q (m ∷ own) ≡ []
    by true e k = absurd (not_at keys q m clear h.0 (same_path-sound m.path q e))
    by false e k = rw e k

pub kinds_same : (keys : List (List ℕ)) (q : List Part) (ms own : List Mention) → PassesBy keys q
    → AllOf (IsOfHeader keys) own → kinds_at q (ms ++ own) ≡ kinds_at q ms
kinds_same keys q ms own clear h =
    kinds_at-append q ms own
    ∙ ap (λ (l : List MentionKind). kinds_at q ms ++ l) (nothing_there keys q own clear h)
    ∙ append-nil (kinds_at q ms)

-- No key part of the header leads there.
pub not_named : (tables : List (List Part)) (k : List ℕ) (ks : List (List ℕ)) (q : List Part) → PassesBy (k ∷ ks) q
    → position (same_path q) (map (header_path tables []) (key_prefixes (k ∷ ks))) ≡ None
not_named tables k ks q clear =
    by (position (same_path q) (map (header_path tables []) (key_prefixes (k ∷ ks)))) refl
  where
    by : (o : Option ℕ) → position (same_path q) (map (header_path tables []) (key_prefixes (k ∷ ks))) ≡ o
        → position (same_path q) (map (header_path tables []) (key_prefixes (k ∷ ks))) ≡ None
    by None e = e
    by (Some n) e =
        let own : List Mention =
        header_prefixes tables [] (k ∷ ks)
        ++ record { path = header_path tables [] (k ∷ ks); kind = define } ∷ [] in
        let (m, there, of_header) =
        meet (IsSolidAt q) (IsOfHeader (k ∷ ks)) own
        (part_solid q tables [] n (k ∷ ks) define refl (header_position q tables n (k ∷ ks) e))
        (table_own tables k ks []) in
        absurd (not_at (k ∷ ks) q m clear of_header there.path)

-- ---- arrays and inline tables

-- what is known at a path of which the first mention is there
first_fact : (q : List Part) (m : Mention) (ms : List Mention) (o : Option Fact) → is_at q m ≡ true → fact_of m.kind ≡ o
    → fact_at q (m ∷ ms) ≡ first_of (cons_option o (filter_map fact_of (kinds_at q ms)))
first_fact q m ms o e u =
    fact_head q m ms e
    ∙ ap (λ (x : Option Fact). first_of (cons_option x (filter_map fact_of (kinds_at q ms)))) u

plain_there : (keys : List (List ℕ)) (q : List Part) (own : List Mention) → AllOf (IsOfHeader keys) own
    → bracket_of (fact_at q own) ≡ false
plain_there keys q [] h = refl
plain_there keys q (m ∷ own) h = by (is_at q m) refl (fact_of m.kind) refl (plain_there keys q own h.1)
  where
    by : (b : Bool) → is_at q m ≡ b → (o : Option Fact) → fact_of m.kind ≡ o → bracket_of (fact_at q own) ≡ false
        → bracket_of (fact_at q (m ∷ own)) ≡ false
    by false e o u k = ap bracket_of (fact_past q m own e) ∙ k
    by true e None u k = ap bracket_of (first_fact q m own None e u) ∙ k
    by true e (Some f) u k = ap bracket_of (first_fact q m own (Some f) e u) ∙ sym (ap bracket_of u) ∙ h.0.plain

pub bracket_same : (keys : List (List ℕ)) (q : List Part) (ms own : List Mention) → AllOf (IsOfHeader keys) own
    → is_bracket_at (ms ++ own) q ≡ is_bracket_at ms q
bracket_same keys q [] own h = plain_there keys q own h
bracket_same keys q (m ∷ ms) own h = by (is_at q m) refl (fact_of m.kind) refl (bracket_same keys q ms own h)
  where
    by : (b : Bool) → is_at q m ≡ b → (o : Option Fact) → fact_of m.kind ≡ o
        → bracket_of (fact_at q (ms ++ own)) ≡ bracket_of (fact_at q ms)
        → bracket_of (fact_at q (m ∷ (ms ++ own))) ≡ bracket_of (fact_at q (m ∷ ms))
    by false e o u k =
        ap bracket_of (fact_past q m (ms ++ own) e) ∙ k ∙ sym (ap bracket_of (fact_past q m ms e))
    by true e None u k =
        ap bracket_of (first_fact q m (ms ++ own) None e u) ∙ k
        ∙ sym (ap bracket_of (first_fact q m ms None e u))
    by true e (Some f) u k =
        ap bracket_of (first_fact q m (ms ++ own) (Some f) e u)
        ∙ sym (ap bracket_of (first_fact q m ms (Some f) e u))
