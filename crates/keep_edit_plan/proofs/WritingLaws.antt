-- The keys of a path, written step by step, and the value after them are the text that an edit puts in.
--
-- Theorems: `step_preserved`: after each step, what is written and what is left are the same whole; `path_written`: at
-- the end nothing is left; `keyed_written`: the value after its keys.
use Rattle.std.proofs.Common.{◌≡◌, ℕ, zero, suc, ◌<◌, ◌≤◌, Bool, true, false, List, [], ◌∷◌, ◌++◌, length, take, drop}
use Rattle.std.proofs.Common.{slice_get, map, refl, sym, ap, ◌∙◌, append_assoc, arith, Some, None}
use Rattle.std.specs.Prelude.{codes}
use Rattle.std.specs.List.{flat_map, list_any}
use Rattle.std.proofs.lemmas.List.{append-nil}
use Rattle.keep_token.specs.Encoded.{encoded_key}
use Rattle.keep_syntax.specs.Tree.{Value, key_leaves, further_leaves, named_leaves, text_of}
use Rattle.keep_path.specs.Path.{Part, key, index}
use Rattle.keep_edit_spec.specs.Edits.{further_part, key_with}
use Rattle.keep_edit_spec.specs.Insertion.{keyed_text, name_of}
use Rattle.keep_edit_spec.specs.Look.{is_index, keys_in}
use Rattle.keep_edit_spec.specs.Values.{text_of_value}
use Rattle.keep_edit_spec.proofs.Shared.{text_of-append}
use Rattle.keep_edit_plan.specs.Writing.{AddsStep, keys_between, keys_text}
use Rattle.keep_edit_plan.specs.Writing.{key_text as written_key}

-- ---- step by step

here : (n to : ℕ) (path : List Part) (p : Part) → n < to → slice_get path n ≡ Some p
    → drop n (take to path) ≡ p ∷ drop (suc n) (take to path)
here n to [] p less e = absurd cc
here zero zero (q ∷ path) p less e = absurd (omega (arith, less))
here zero (suc to) (q ∷ path) p less e = let same : q ≡ p = cc in ap (λ (x : Part). x ∷ take to path) same
here (suc n) zero (q ∷ path) p less e = absurd (omega (arith, less))
here (suc n) (suc to) (q ∷ path) p less e = here n to path p (omega (arith, less)) e

drop_none : (n : ℕ) (l : List Part) → length l ≤ n → drop n l ≡ []
drop_none zero [] h = refl
drop_none (suc n) [] h = refl
drop_none zero (x ∷ l) h = absurd (omega (arith, h))
drop_none (suc n) (x ∷ l) h = drop_none n l (omega (arith, h))

beyond : (n to : ℕ) (path : List Part) → slice_get path n ≡ None → drop n (take to path) ≡ []
beyond zero zero [] e = refl
beyond (suc n) zero [] e = refl
beyond zero (suc to) [] e = refl
beyond (suc n) (suc to) [] e = refl
beyond zero to (x ∷ path) e = absurd cc
beyond (suc n) zero (x ∷ path) e = refl
beyond (suc n) (suc to) (x ∷ path) e = beyond n to path e

-- where a step is written, the rest is what was left
pub step_preserved : (dot further : Bool) (p : Part) (n m to : ℕ) (path : List Part) (old new whole : List ℕ) → n < to
    → m ≡ suc n → slice_get path n ≡ Some p → AddsStep dot further p old new
    → old ++ keys_text dot (keys_between n to path) ≡ whole → new ++ keys_text further (keys_between m to path) ≡ whole
step_preserved dot further (key k) n m to path old new whole less next e h was =
    let left : keys_between n to path ≡ k ∷ keys_between m to path =
    ap keys_in (here n to path (key k) less e) ∙ ap (λ (x : ℕ). k ∷ keys_between x to path) (sym next) in
    ap (λ (b : Bool). new ++ keys_text b (keys_between m to path)) h.0
    ∙ ap (λ (t : List ℕ). t ++ keys_text true (keys_between m to path)) h.1
    ∙ append_assoc old (written_key dot k) (keys_text true (keys_between m to path))
    ∙ ap (λ (l : List (List ℕ)). old ++ keys_text dot l) (sym left)
    ∙ was
step_preserved dot further (index i) n m to path old new whole less next e h was =
    let left : keys_between m to path ≡ keys_between n to path =
    ap (λ (x : ℕ). keys_between x to path) next ∙ sym (ap keys_in (here n to path (index i) less e)) in
    ap (λ (b : Bool). new ++ keys_text b (keys_between m to path)) h.0
    ∙ ap (λ (t : List ℕ). t ++ keys_text dot (keys_between m to path)) h.1
    ∙ ap (λ (l : List (List ℕ)). old ++ keys_text dot l) left
    ∙ was

-- and at the end nothing is left
none_left : (dot : Bool) (old whole : List ℕ) (ks : List (List ℕ)) → ks ≡ [] → old ++ keys_text dot ks ≡ whole
    → old ≡ whole
none_left dot old whole ks e was =
    sym (append-nil old) ∙ ap (λ (l : List (List ℕ)). old ++ keys_text dot l) (sym e) ∙ was

pub path_written : (dot : Bool) (n to : ℕ) (path : List Part) (old whole : List ℕ) → slice_get path n ≡ None
    → old ++ keys_text dot (keys_between n to path) ≡ whole → old ≡ whole
path_written dot n to path old whole e was =
    none_left dot old whole (keys_between n to path) (ap keys_in (beyond n to path e)) was

-- ---- as it is written

further_text : (ks : List (List ℕ)) → text_of (flat_map further_leaves (map further_part ks)) ≡ keys_text true ks
further_text [] = refl
further_text (k ∷ ks) = ap (λ (t : List ℕ). 0x2E ∷ (encoded_key k ++ t)) (further_text ks)

pub keys_as_written : (k : List ℕ) (ks : List (List ℕ))
    → text_of (key_leaves (key_with (k ∷ ks))) ≡ keys_text false (k ∷ ks)
keys_as_written k ks = ap (λ (t : List ℕ). encoded_key k ++ t) (further_text ks)

-- the keys of a path from one number on
pub keys_from : (from to : ℕ) (path : List Part) → to ≡ length path
    → keys_between from to path ≡ keys_in (drop from path)
keys_from from to path e = ap (λ (l : List Part). keys_in (drop from l)) (ap (λ (n : ℕ). take n path) e ∙ take_all path)
  where
    take_all : (l : List Part) → take (length l) l ≡ l
    take_all [] = refl
    take_all (x ∷ l) = ap (λ (r : List Part). x ∷ r) (take_all l)

-- ---- before a value

abbrev pub equals : List ℕ
equals = codes " = "

some_keys : (ps : List Part) → list_any is_index ps ≡ false → 0 < length ps
    → (k : List ℕ) × (ks : List (List ℕ)) × (keys_in ps ≡ k ∷ ks)
some_keys [] h some = absurd (omega (arith, some))
some_keys (key k ∷ ps) h some = (k, keys_in ps, refl)
some_keys (index n ∷ ps) h some = absurd cc

drop_length : (n : ℕ) (l : List Part) → n < length l → 0 < length (drop n l)
drop_length zero [] h = absurd (omega (arith, h))
drop_length (suc n) [] h = absurd (omega (arith, h))
drop_length zero (x ∷ l) h = omega arith
drop_length (suc n) (x ∷ l) h = drop_length n l (omega (arith, h))

name_text : (k : List ℕ) (ks : List (List ℕ))
    → text_of (named_leaves (name_of (k ∷ ks))) ≡ keys_text false (k ∷ ks) ++ equals
name_text k ks =
    text_of-append (key_leaves (key_with (k ∷ ks))) _ ∙ ap (λ (t : List ℕ). t ++ equals) (keys_as_written k ks)

-- the value after its keys
pub keyed_written : (from to : ℕ) (path : List Part) (v : Value) (old one two new value : List ℕ) → from < to
    → to ≡ length path → list_any is_index (drop from path) ≡ false
    → one ≡ old ++ keys_text false (keys_between from to path) → two ≡ one ++ equals → value ≡ text_of_value v
    → new ≡ two ++ value → new ≡ old ++ keyed_text (keys_in (drop from path)) v
keyed_written from to path v old one two new value less size keys h1 h2 h3 h4 =
    let (k, ks, e) = some_keys (drop from path) keys (drop_length from path (omega (arith, less, size))) in
    let written : keys_between from to path ≡ k ∷ ks = keys_from from to path size ∙ e in
    h4 ∙ ap (λ (t : List ℕ). two ++ t) h3
    ∙ ap (λ (t : List ℕ). t ++ text_of_value v)
    (h2 ∙ ap (λ (t : List ℕ). t ++ equals) (h1 ∙ ap (λ (l : List (List ℕ)). old ++ keys_text false l) written))
    ∙ regroup old (keys_text false (k ∷ ks)) equals (text_of_value v)
    ∙ ap (λ (t : List ℕ). old ++ (t ++ text_of_value v)) (sym (name_text k ks))
    ∙ ap (λ (l : List (List ℕ)). old ++ keyed_text l v) (sym e)
  where
    regroup : (a b c d : List ℕ) → ((a ++ b) ++ c) ++ d ≡ a ++ ((b ++ c) ++ d)
    regroup a b c d = simp append_assoc refl

-- the value alone
pub value_written : (from to : ℕ) (path : List Part) (v : Value) (old new value : List ℕ) → to ≤ from → to ≡ length path
    → value ≡ text_of_value v → new ≡ old ++ value → new ≡ old ++ keyed_text (keys_in (drop from path)) v
value_written from to path v old new value more size h1 h2 =
    h2 ∙ ap (λ (t : List ℕ). old ++ t) h1
    ∙ ap (λ (l : List (List ℕ)). old ++ keyed_text l v)
    (sym (ap keys_in (drop_none from path (omega (arith, more, size)))))
