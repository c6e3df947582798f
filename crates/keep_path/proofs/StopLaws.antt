-- A path's text stops where no step can be read: no longer prefix is a path's text.
--
-- Of the key parts that begin a text, each that is the longest of its kind is the one that the scan finds: so none is
-- longer. A longer prefix of the text goes on with steps after a key part, and then its key part is the one that was
-- found, since no step begins with a byte of bare keys. So while steps are read, each longer prefix that is a path's
-- text goes on with steps after what was read (`PathGoesOn`); and where no step begins, there is none.
--
-- Theorems: `stops_first`, `stops_at`.
use Rattle.std.proofs.Common.{◌≡◌, ℕ, zero, suc, ◌+◌, ◌-◌, ◌<◌, ◌≤◌, true, List, [], ◌∷◌, ◌++◌, length, take, drop}
use Rattle.std.proofs.Common.{refl, sym, ap, ◌∙◌, subst, inl, inr, arith, append_assoc, append-nil, length-drop}
use Rattle.std.proofs.Common.{length-append, Option, Some, Result, Ok, Err}
use Rattle.std.proofs.lemmas.Bool.{cases_lt}
use Rattle.std.proofs.lemmas.List.{drop-drop, drop_at, length-take-le, take-append-drop, take_all, take_at}
use Rattle.std.specs.Fmt.{decimal}
use Rattle.keep_types.specs.declared.leaf.Leaf.{Leaf}
use Rattle.keep_types.specs.declared.leaf.Profile.TheVariants.{Strict}
use Rattle.keep_token.specs.Leaves.{IsLeaf, KeyLeaf, is_key_leaf}
use Rattle.keep_token.specs.Pieces.{first}
use Rattle.keep_token.specs.Scanning.{key_at}
use Rattle.keep_token.proofs.Shared.{some_injective, key_found, key_again}
use Rattle.keep_path.proofs.IndexLaws.{index_one}
use Rattle.keep_path.proofs.PathReadLaws.{SoFar, steps_stop, key_first, index_first, index_after}
use Rattle.keep_path.specs.Path.{Part, key, index}
use Rattle.keep_path.specs.PathReading.{KeysWithin, NoSteps, SomeSteps, StepsGoOn}
use Rattle.keep_path.specs.PathText.{KeyText, StepsText, IsPathText, SomePath, StopsAt}

-- ---- no key part is longer than the one that is found

-- where each longest one of a kind has at most n bytes; by how many bytes more there may be
keys_by : (text : List ℕ) (n d : ℕ) → ((l : Leaf) (m : ℕ) → KeyLeaf Strict text l m → m ≤ n)
    → (l : Leaf) (m : ℕ) → length text < m + d → is_key_leaf l ≡ true → m ≤ length text → IsLeaf Strict l (take m text)
    → m ≤ n
keys_by text n zero one l m far k le h = absurd (omega arith)
keys_by text n (suc d) one l m far k le h =
    elim (cases_lt n m) [
      | inr few ↦ few
      | inl more ↦
          let longest : (j : ℕ) → j ≤ length text → IsLeaf Strict l (take j text) → j ≤ m = λ j within belongs.
          elim (cases_lt m j) [
            | inr few ↦ few
            | inl longer ↦ absurd (omega (arith, keys_by text n d one l j (omega arith) k within belongs))
          ] in
          one l m (record { kind = k; leaf = record { within = le; belongs = h; longest = longest } })
    ]

keys_within : (text : List ℕ) (n : ℕ) → ((l : Leaf) (m : ℕ) → KeyLeaf Strict text l m → m ≤ n) → KeysWithin text n
keys_within text n one = λ l m k le h. keys_by text n (suc (length text)) one l m (omega arith) k le h

pub keys_of_found : {E : Type 0} (text : List ℕ) (r : Result (Leaf × ℕ) E) (k : Leaf) (n : ℕ) → r ≡ Ok (k, n)
    → ((l : Leaf) (m : ℕ) → KeyLeaf Strict text l m → r ≡ Ok (l, 0 + m)) → KeysWithin text n
keys_of_found {E} text r k n is only = keys_within text n (λ l m h. same l m (sym is ∙ only l m h))
  where
    same : (l : Leaf) (m : ℕ) → ◌≡◌ {A = Result (Leaf × ℕ) E} (Ok (k, n)) (Ok (l, 0 + m)) → m ≤ n
    same l m e = let f : ◌≡◌ {A = Leaf × ℕ} (k, n) (l, 0 + m) = cc in omega (arith, ap (λ (p : Leaf × ℕ). p.1) f)

pub keys_of_none : {E : Type 0} (text : List ℕ) (r : Result (Leaf × ℕ) E) (fault : E) → r ≡ Err fault
    → ((l : Leaf) (m : ℕ) → KeyLeaf Strict text l m → r ≡ Ok (l, 0 + m)) → KeysWithin text 0
keys_of_none {E} text r fault is only = keys_within text 0 (λ l m h. never l m (sym is ∙ only l m h))
  where
    never : (l : Leaf) (m : ℕ) → ◌≡◌ {A = Result (Leaf × ℕ) E} (Err fault) (Ok (l, 0 + m)) → m ≤ 0
    never l m e = cc

-- ---- a prefix of the text that goes on after a key part

split : (text : List ℕ) (k : ℕ) (part more : List ℕ) → take k text ≡ part ++ more → text ≡ part ++ (more ++ drop k text)
split text k part more e =
    sym (take-append-drop k text) ∙ ap (λ (t : List ℕ). t ++ drop k text) e ∙ append_assoc part more (drop k text)

-- what is left of the prefix
left_of : (text part more : List ℕ) (k n : ℕ) → k ≤ length text → length part ≡ n → take k text ≡ part ++ more
    → take (k - n) (drop n text) ≡ more
left_of text part more k n le count e =
    let len : k ≡ length part + length more = sym (length-take-le k text le) ∙ ap length e ∙ length-append part more in
    let rest : drop n text ≡ more ++ drop k text =
    ap (drop n) (split text k part more e) ∙ drop_at part (more ++ drop k text) n count in
    rw rest (take_at more (drop k text) (k - n) (omega arith))

key_goes_on : (text : List ℕ) (l : Leaf) (n : ℕ) → key_at Strict text ≡ Some (l, n) → KeysWithin text n
    → (value part rest : List ℕ) (parts : List Part) (k : ℕ) → n < k → k ≤ length text → take k text ≡ part ++ rest
    → KeyText value part → StepsText parts rest
    → SomeSteps (take (k - n) (drop n text))
key_goes_on text l n at within value part [] parts k gt le e (kind, is, h, m) steps =
    let whole : take k text ≡ part = e ∙ append-nil part in
    absurd (omega (arith, within kind k is le (rw whole h)))
key_goes_on text l n at within value part (b ∷ bs) parts k gt le e (kind, is, h, m) steps =
    let spelled = split text k part (b ∷ bs) e in
    let again = key_again Strict kind part ((b ∷ bs) ++ drop k text) is h (steps_stop parts (b ∷ bs) steps) in
    let found : ◌≡◌ {A = Option (Leaf × ℕ)} (Some (kind, length part)) (Some (l, n)) =
    sym again ∙ ap (key_at Strict) (sym spelled) ∙ at in
    let pair : ◌≡◌ {A = Leaf × ℕ} (kind, length part) (l, n) = some_injective found in
    (parts, rw (left_of text part (b ∷ bs) k n le (ap (λ (p : Leaf × ℕ). p.1) pair) e) steps)

-- a key part has a byte
key_some : (value part : List ℕ) → KeyText value part → 0 < length part
key_some value part (kind, is, h, m) =
    (key_found Strict (part ++ []) kind (length part) (key_again Strict kind part [] is h refl)).1

no_key : (text value part more : List ℕ) (k : ℕ) → KeysWithin text 0 → k ≤ length text → take k text ≡ part ++ more
    → KeyText value part → ⊥
no_key text value part more k within le e (kind, is, h, m) =
    let spelled = split text k part more e in
    let fits : length part ≤ length text = omega (arith, ap length spelled, length-append part (more ++ drop k text)) in
    let same : take (length part) text ≡ part =
    ap (take (length part)) spelled ∙ take_at part (more ++ drop k text) (length part) refl in
    omega (arith, within kind (length part) is fits (rw same h), key_some value part (kind, is, h, m))

-- ---- steps go on after the first, or there is none

less_one : (k n : ℕ) → suc k - suc n ≡ k - n
less_one k n = omega arith

pub dot_on : (more : List ℕ) (l : Leaf) (n : ℕ) → key_at Strict more ≡ Some (l, n) → KeysWithin more n
    → StepsGoOn (0x2E ∷ more) (suc n)
dot_on more l n at within = λ k gt le steps. by_len k gt le steps
  where
    by_parts : (k : ℕ) → n < k → k ≤ length more → (parts : List Part) → StepsText parts (0x2E ∷ take k more)
        → SomeSteps (take (k - n) (drop n more))
    by_parts k gt le [] h = absurd cc
    by_parts k gt le (index i ∷ parts) h =
        let never : ◌≡◌ {A = ℕ} 0x2E 0x5B =
        ap (λ (t : List ℕ). first t) (index_first i parts (0x2E ∷ take k more) h).spelled in
        absurd (omega (arith, never))
    by_parts k gt le (key v ∷ parts) h =
        let f = key_first v parts (0x2E ∷ take k more) h in
        let e : take k more ≡ f.part ++ f.after = ap (λ (t : List ℕ). drop 1 t) f.spelled in
        key_goes_on more l n at within v f.part f.after parts k gt le e f.is_key f.more

    by_len : (k : ℕ) → suc n < k → k ≤ length (0x2E ∷ more) → SomeSteps (take k (0x2E ∷ more))
        → SomeSteps (take (k - suc n) (drop (suc n) (0x2E ∷ more)))
    by_len zero gt le steps = absurd (omega arith)
    by_len (suc k) gt le (parts, h) = rw (less_one k n) (by_parts k (omega arith) (omega arith) parts h)

pub dot_none : (more : List ℕ) → KeysWithin more 0 → NoSteps (0x2E ∷ more)
dot_none more within = λ k gt le steps. by_len k gt le steps
  where
    by_parts : (k : ℕ) → k ≤ length more → (parts : List Part) → StepsText parts (0x2E ∷ take k more) → ⊥
    by_parts k le [] h = absurd cc
    by_parts k le (index i ∷ parts) h =
        let never : ◌≡◌ {A = ℕ} 0x2E 0x5B =
        ap (λ (t : List ℕ). first t) (index_first i parts (0x2E ∷ take k more) h).spelled in
        omega (arith, never)
    by_parts k le (key v ∷ parts) h =
        let f = key_first v parts (0x2E ∷ take k more) h in
        let e : take k more ≡ f.part ++ f.after = ap (λ (t : List ℕ). drop 1 t) f.spelled in
        no_key more v f.part f.after k within le e f.is_key

    by_len : (k : ℕ) → 0 < k → k ≤ length (0x2E ∷ more) → SomeSteps (take k (0x2E ∷ more)) → ⊥
    by_len zero gt le steps = omega arith
    by_len (suc k) gt le (parts, h) = by_parts k (omega arith) parts h

pub bracket_on : (more : List ℕ) (n c : ℕ) → n < 1_000_000_000 → more ≡ (decimal n ++ 0x5D ∷ []) ++ drop c more
    → c ≡ length (decimal n ++ 0x5D ∷ []) → StepsGoOn (0x5B ∷ more) (suc c)
bracket_on more n c small is count = λ k gt le steps. by_len k gt le steps
  where
    by_parts : (k : ℕ) → c < k → k ≤ length more → (parts : List Part) → StepsText parts (0x5B ∷ take k more)
        → SomeSteps (take (k - c) (drop c more))
    by_parts k gt le [] h = absurd cc
    by_parts k gt le (key v ∷ parts) h =
        let never : ◌≡◌ {A = ℕ} 0x5B 0x2E =
        ap (λ (t : List ℕ). first t) (key_first v parts (0x5B ∷ take k more) h).spelled in
        absurd (omega (arith, never))
    by_parts k gt le (index i ∷ parts) h =
        let (rest, few, e, steps) = index_after (take k more) i parts h in
        let e2 : take k more ≡ (decimal i ++ 0x5D ∷ []) ++ rest = e ∙ sym (append_assoc (decimal i) (0x5D ∷ []) rest) in
        let own : more ≡ decimal i ++ 0x5D ∷ (rest ++ drop k more) = split more k (decimal i) (0x5D ∷ rest) e in
        let other : more ≡ decimal n ++ 0x5D ∷ drop c more = is ∙ append_assoc (decimal n) (0x5D ∷ []) (drop c more) in
        let same = index_one i n (rest ++ drop k more) (drop c more) few small (sym own ∙ other) in
        let len : length (decimal i ++ 0x5D ∷ []) ≡ c = rw same.0 (sym count) in
        (parts, rw (left_of more (decimal i ++ 0x5D ∷ []) rest k c le len e2) steps)

    by_len : (k : ℕ) → suc c < k → k ≤ length (0x5B ∷ more) → SomeSteps (take k (0x5B ∷ more))
        → SomeSteps (take (k - suc c) (drop (suc c) (0x5B ∷ more)))
    by_len zero gt le steps = absurd (omega arith)
    by_len (suc k) gt le (parts, h) = rw (less_one k c) (by_parts k (omega arith) (omega arith) parts h)

pub bracket_none : (more : List ℕ) → ((n : ℕ) (rest : List ℕ) → n < 1_000_000_000 → more ≡ decimal n ++ 0x5D ∷ rest → ⊥)
    → NoSteps (0x5B ∷ more)
bracket_none more none = λ k gt le steps. by_len k gt le steps
  where
    by_parts : (k : ℕ) → k ≤ length more → (parts : List Part) → StepsText parts (0x5B ∷ take k more) → ⊥
    by_parts k le [] h = absurd cc
    by_parts k le (key v ∷ parts) h =
        let never : ◌≡◌ {A = ℕ} 0x5B 0x2E =
        ap (λ (t : List ℕ). first t) (key_first v parts (0x5B ∷ take k more) h).spelled in
        omega (arith, never)
    by_parts k le (index i ∷ parts) h =
        let (rest, few, e, steps) = index_after (take k more) i parts h in
        none i (rest ++ drop k more) few (split more k (decimal i) (0x5D ∷ rest) e)

    by_len : (k : ℕ) → 0 < k → k ≤ length (0x5B ∷ more) → SomeSteps (take k (0x5B ∷ more)) → ⊥
    by_len zero gt le steps = omega arith
    by_len (suc k) gt le (parts, h) = by_parts k (omega arith) parts h

-- no step begins with any other byte
pub other_none : (text : List ℕ) → (first text ≡ 0x2E → ⊥) → (first text ≡ 0x5B → ⊥) → NoSteps text
other_none [] dot bracket k gt le steps = omega arith
other_none (c ∷ cs) dot bracket zero gt le steps = omega arith
other_none (c ∷ cs) dot bracket (suc k) gt le ([], h) = cc
other_none (c ∷ cs) dot bracket (suc k) gt le ((key v ∷ parts), h) =
    dot (ap (λ (t : List ℕ). first t) (key_first v parts (c ∷ take k cs) h).spelled)
other_none (c ∷ cs) dot bracket (suc k) gt le ((index i ∷ parts), h) =
    bracket (ap (λ (t : List ℕ). first t) (index_first i parts (c ∷ take k cs) h).spelled)

-- ---- a path goes on after what is read

-- a prefix of more than so many bytes that is a path's text goes on with steps after these bytes
abbrev pub PathGoesOn : List ℕ → ℕ → Type 0
PathGoesOn text at =
    (m : ℕ) → at < m → m ≤ length text → SomePath (take m text) → SomeSteps (take (m - at) (drop at text))

no_text : (text : List ℕ) (m : ℕ) → m ≤ length text → take m text ≡ [] → m ≡ 0
no_text text m le e = sym (length-take-le m text le) ∙ ap length e

pub path_on_first : (text : List ℕ) (l : Leaf) (n : ℕ) → key_at Strict text ≡ Some (l, n) → KeysWithin text n
    → PathGoesOn text n
path_on_first text l n at within = λ m gt le (path, h). by_path m gt le path h
  where
    by_path : (m : ℕ) → n < m → m ≤ length text → (path : List Part) → IsPathText (take m text) path
        → SomeSteps (take (m - n) (drop n text))
    by_path m gt le [] h = absurd (omega (arith, no_text text m le h))
    by_path m gt le (index i ∷ parts) h = absurd h
    by_path m gt le (key v ∷ parts) (a, b, e, k, steps) = key_goes_on text l n at within v a b parts m gt le e k steps

pub path_on_more : (text : List ℕ) (at n : ℕ) → PathGoesOn text at → StepsGoOn (drop at text) n
    → PathGoesOn text (at + n)
path_on_more text at n path steps m gt le h =
    let inner = path m (omega arith) le h in
    let after = steps (m - at) (omega arith) (omega (arith, length-drop at text)) inner in
    let same : m - (at + n) ≡ m - at - n = omega arith in
    rw same (rw (← drop-drop n at text) after)

-- ---- where the text stops

pub stops_first : (text : List ℕ) → 0 < length text → KeysWithin text 0 → StopsAt text 0
stops_first text some within =
    (record { within = omega arith; belongs = ([], refl); longest = λ m le (path, h). by_path m le path h }, some)
  where
    by_path : (m : ℕ) → m ≤ length text → (path : List Part) → IsPathText (take m text) path → m ≤ 0
    by_path m le [] h = omega (arith, no_text text m le h)
    by_path m le (index i ∷ parts) h = absurd h
    by_path m le (key v ∷ parts) (a, b, e, k, steps) = absurd (no_key text v a b m within le e k)

pub stops_at : (text : List ℕ) (path : List Part) (at : ℕ) → at < length text → SoFar text path at → PathGoesOn text at
    → NoSteps (drop at text) → StopsAt text at
stops_at text path at more so_far on none =
    (record { within = so_far.within; belongs = (path, so_far.stated); longest = longest }, more)
  where
    longest : (m : ℕ) → m ≤ length text → SomePath (take m text) → m ≤ at
    longest m le h =
        elim (cases_lt at m) [
          | inr few ↦ few
          | inl longer ↦ absurd (none (m - at) (omega arith) (omega (arith, length-drop at text)) (on m longer le h))
        ]

-- such a text is no path's
pub no_path : (text : List ℕ) (at : ℕ) → StopsAt text at → (path : List Part) → IsPathText text path → ⊥
no_path text at (stop, more) path h =
    let whole : take (length text) text ≡ text = take_all (length text) text (omega arith) in
    let P : List ℕ → Type 0 = λ t. IsPathText t path in
    omega (arith, stop.longest (length text) (omega arith) (path, subst P (sym whole) h), more)
