-- A path that is to be new: its longest prefix that names a node, and the keys after that.
--
-- The holder of a path is the longest proper prefix that passes the test for nodes; the prefix one step longer does not
-- (`longest`, by induction over the path). Of an insert that is not refused each condition fails: so the path names no
-- node, the holder is a table, and no index comes after it. Then what comes after the holder are keys (`all_keys`), of
-- which the first names no node.
--
-- Theorems: `held` and `new_path`; `ends_in_key`: a path that continues by keys.
use Rattle.std.proofs.Common.{◌≡◌, ℕ, Bool, true, false, not, cond, ◌||◌, ◌&&◌, List, [], ◌∷◌, ◌++◌, length, map, drop}
use Rattle.std.proofs.Common.{refl, sym, ap, subst, ◌∙◌, append_assoc, Option, Some, None, ◌⊎◌, inl, inr}
use Rattle.std.specs.List.{list_any}
use Rattle.keep_types.specs.declared.leaf.Profile.{Profile}
use Rattle.keep_syntax.specs.Tree.{Value}
use Rattle.keep_syntax.specs.Profiles.{is_allowed_in}
use Rattle.keep_edit_spec.specs.declared.fault.EditFault.{EditFault}
use Rattle.keep_edit_spec.specs.declared.fault.EditFault.TheVariants as fault
use Rattle.keep_path.specs.Path.{EndsInKey, Part, key, index}
use Rattle.keep_path.proofs.Shared.{last_pushed}
use Rattle.keep_meaning.specs.Marks.{Mention}
use Rattle.keep_meaning.specs.Nodes.{is_node, is_at, is_root}
use Rattle.keep_edit_spec.specs.Look.{prefixes, last_passing, holder, is_index, is_table, item_number, keys_in}
use Rattle.keep_edit_spec.specs.Refusals.{first_that_holds, refusal_by, is_too_deep}
use Rattle.keep_edit_spec.specs.Edits.{insert}

-- ---- the longest proper prefix that passes

abbrev pub mapped : (List Part → List Part) → Option (List Part) → Option (List Part)
mapped f None = None
mapped f (Some x) = Some (f x)

pub passing_map : (T : List Part → Bool) (f : List Part → List Part) (xs : List (List Part))
    → last_passing T (map f xs) ≡ mapped f (last_passing (λ x. T (f x)) xs)
passing_map T f [] = refl
passing_map T f (x ∷ xs) =
    by (last_passing T (map f xs)) (last_passing (λ x. T (f x)) xs) (T (f x)) (passing_map T f xs)
  where
    by : (o p : Option (List Part)) (b : Bool) → o ≡ mapped f p
        → elim o [ Some y ↦ Some y | None ↦ cond b (Some (f x)) None ]
        ≡ mapped f (elim p [ Some y ↦ Some y | None ↦ cond b (Some x) None ])
    by o (Some y) b e = rw e refl
    by o None true e = rw e refl
    by o None false e = rw e refl

pub record IsLongest (T : List Part → Bool) (path a : List Part) : Type 0 where
  pub part : Part
  pub more : List Part
  pub whole : path ≡ a ++ part ∷ more
  pub passes : T a ≡ true
  pub next : (more ≡ []) ⊎ (T (a ++ part ∷ []) ≡ false)

abbrev Longest : (List Part → Bool) → List Part → Option (List Part) → Type 0
Longest T path None = (path ≡ []) ⊎ (T [] ≡ false)
Longest T path (Some a) = IsLongest T path a

longest_step : (T : List Part → Bool) (p : Part) (ps : List Part) (o : Option (List Part))
    → Longest (λ x. T (p ∷ x)) ps o → (b : Bool) → T [] ≡ b
    → Longest T (p ∷ ps) (elim (mapped (λ x. p ∷ x) o) [ Some y ↦ Some y | None ↦ cond b (Some []) None ])
longest_step T p ps (Some a) h b e =
    record {
      part = h.part;
      more = h.more;
      whole = ap (λ (l : List Part). p ∷ l) h.whole;
      passes = h.passes;
      next = h.next;
    }
longest_step T p ps None h true e = record { part = p; more = ps; whole = refl; passes = e; next = h }
longest_step T p ps None h false e = inr e

longest : (T : List Part → Bool) (path : List Part) → Longest T path (last_passing T (prefixes path))
longest T [] = inl refl
longest T (p ∷ ps) =
    subst (λ (o : Option (List Part)).
    Longest T (p ∷ ps) (elim o [ Some y ↦ Some y | None ↦ cond (T []) (Some []) None ]))
    (sym (passing_map T (λ x. p ∷ x) (prefixes ps)))
    (longest_step T p ps (last_passing (λ x. T (p ∷ x)) (prefixes ps)) (longest (λ x. T (p ∷ x)) ps) (T []) refl)

pub held : (path : List Part) (ms : List Mention) → is_node path ms ≡ false
    → IsLongest (λ prefix. is_node prefix ms) path (holder path ms)
held path ms new =
    by (last_passing (λ prefix. is_node prefix ms) (prefixes path)) (longest (λ prefix. is_node prefix ms) path)
  where
    never : path ≡ [] → ⊥
    never e = let k : is_node [] ms ≡ false = subst (λ (p : List Part). is_node p ms ≡ false) e new in absurd cc

    by : (o : Option (List Part)) → Longest (λ prefix. is_node prefix ms) path o
        → IsLongest (λ prefix. is_node prefix ms) path (elim o [ Some a ↦ a | None ↦ [] ])
    by (Some a) h = h
    by None (inl e) = absurd (never e)
    by None (inr e) = absurd cc

-- ---- the conditions of a refusal

pub none_holds : (b : Bool) (f : EditFault) (cs : List (Bool × EditFault)) → first_that_holds ((b, f) ∷ cs) ≡ None
    → (b ≡ false) × (first_that_holds cs ≡ None)
none_holds true f cs h = absurd cc
none_holds false f cs h = (refl, h)

pub either_false : (a b : Bool) → (a || b) ≡ false → b ≡ false
either_false false b h = h
either_false true b h = absurd cc

and_false : (a b : Bool) → (not a && b) ≡ false → a ≡ false → b ≡ false
and_false false b h e = h
and_false true b h e = absurd cc

not_false : (a : Bool) → not a ≡ false → a ≡ true
not_false true h = refl
not_false false h = absurd cc

-- ---- parts that are keys

pub drop_prefix_parts : (a b : List Part) → drop (length a) (a ++ b) ≡ b
drop_prefix_parts [] b = refl
drop_prefix_parts (x ∷ a) b = drop_prefix_parts a b

pub ends_in_key : (a : List Part) (k : List ℕ) (ks : List (List ℕ)) → EndsInKey (a ++ map key (k ∷ ks))
ends_in_key a k [] = (k, last_pushed a (key k))
ends_in_key a k (l ∷ ks) =
    subst EndsInKey (append_assoc a (key k ∷ []) (map key (l ∷ ks))) (ends_in_key (a ++ key k ∷ []) l ks)

pub keys_of_map : (ks : List (List ℕ)) → keys_in (map key ks) ≡ ks
keys_of_map [] = refl
keys_of_map (k ∷ ks) = ap (λ (l : List (List ℕ)). k ∷ l) (keys_of_map ks)

pub all_keys : (ps : List Part) → list_any is_index ps ≡ false → ps ≡ map key (keys_in ps)
all_keys [] h = refl
all_keys (key k ∷ ps) h = ap (λ (l : List Part). key k ∷ l) (all_keys ps h)
all_keys (index n ∷ ps) h = absurd cc

first_key : (p : Part) (ps : List Part) → list_any is_index (p ∷ ps) ≡ false → (k : List ℕ) × (p ≡ key k)
first_key (key k) ps h = (k, refl)
first_key (index n) ps h = absurd cc

rest_keys : (p : Part) (ps : List Part) → list_any is_index (p ∷ ps) ≡ false → list_any is_index ps ≡ false
rest_keys (key k) ps h = h
rest_keys (index n) ps h = absurd cc

-- The path continues from its holder by keys, and the first of them names no node.
pub record IsNewPath (path : List Part) (ms : List Mention) : Type 0 where
  pub first : List ℕ
  pub more : List (List ℕ)
  pub whole : path ≡ holder path ms ++ map key (first ∷ more)
  pub rest : drop (length (holder path ms)) path ≡ map key (first ∷ more)
  pub keys : keys_in (drop (length (holder path ms)) path) ≡ first ∷ more
  pub fresh : list_any (is_at (holder path ms ++ key first ∷ [])) ms ≡ false
  pub node : is_node (holder path ms) ms ≡ true
  pub table : is_table (holder path ms) ms ≡ true

new_path-by : (path : List Part) (ms : List Mention) → is_node path ms ≡ false → is_table (holder path ms) ms ≡ true
    → list_any is_index (drop (length (holder path ms)) path) ≡ false → IsNewPath path ms
new_path-by path ms new table no_index =
    let a : List Part = holder path ms in
    let h = held path ms new in
    let cut : drop (length a) path ≡ h.part ∷ h.more =
    ap (λ (l : List Part). drop (length a) l) h.whole ∙ drop_prefix_parts a (h.part ∷ h.more) in
    let no : list_any is_index (h.part ∷ h.more) ≡ false =
    subst (λ (l : List Part). list_any is_index l ≡ false) cut no_index in
    let k = first_key h.part h.more no in
    let rest : h.part ∷ h.more ≡ map key (k.0 ∷ keys_in h.more) =
    ap (λ (x : Part). x ∷ h.more) k.1
    ∙ ap (λ (l : List Part). key k.0 ∷ l) (all_keys h.more (rest_keys h.part h.more no)) in
    let unnamed : is_node (a ++ h.part ∷ []) ms ≡ false = elim h.next [
      | inl e ↦
          subst (λ (l : List Part). is_node l ms ≡ false) (h.whole ∙ ap (λ (l : List Part). a ++ h.part ∷ l) e) new
      | inr e ↦ e
    ] in
    record {
      first = k.0;
      more = keys_in h.more;
      whole = h.whole ∙ ap (λ (l : List Part). a ++ l) rest;
      rest = cut ∙ rest;
      keys = ap keys_in (cut ∙ rest) ∙ keys_of_map (k.0 ∷ keys_in h.more);
      fresh = subst (λ (x : Part). list_any (is_at (a ++ x ∷ [])) ms ≡ false) k.1
          (either_false (is_root (a ++ h.part ∷ [])) (list_any (is_at (a ++ h.part ∷ [])) ms) unnamed);
      node = h.passes;
      table = table;
    }

three : (a b c : Bool) (more : List (Bool × EditFault))
    → first_that_holds ((a, fault.NotFound) ∷ (b, fault.Exists) ∷ (c, fault.NotTable) ∷ more) ≡ None
    → (a ≡ false) × ((b ≡ false) × (c ≡ false))
three a b c more h =
    let h1 = none_holds a fault.NotFound ((b, fault.Exists) ∷ (c, fault.NotTable) ∷ more) h in
    let h2 = none_holds b fault.Exists ((c, fault.NotTable) ∷ more) h1.1 in
    let h3 = none_holds c fault.NotTable more h2.1 in
    (h1.0, (h2.0, h3.0))

-- what an insert that is not refused tells of its path, if it is none into an array
pub new_path : (profile : Profile) (limit : ℕ) (ms : List Mention) (path : List Part) (value : Value)
    → item_number path ms ≡ None → refusal_by profile limit ms (insert path value) ≡ None → IsNewPath path ms
new_path profile limit ms path value no_item h =
    let a : List Part = holder path ms in
    let tests =
    three (not (is_node path ms) && list_any is_index (drop (length a) path)) (is_node path ms) (not (is_table a ms))
    ((is_too_deep limit path value ms, fault.TooDeep) ∷ (not (is_allowed_in profile value), fault.Profile) ∷ [])
    (rw (no_item, refusal_by) at h) in
    new_path-by path ms tests.1.0 (not_false (is_table a ms) tests.1.1)
    (and_false (is_node path ms) (list_any is_index (drop (length a) path)) tests.0 tests.1.0)
