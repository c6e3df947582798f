-- What parts add to what is stored: one after the other, and a change of what was stored.
--
-- `Grows` says three things of parts between two places: their text is as long as the places are apart, their leaves,
-- statements, key parts and values are at the ends of the stored lists (`add_at`), and each leaf begins at the start of
-- a character. Where leaves begin is counted from the place of the first, and the leaves of a second part begin where
-- those of the first end, so the two lists of starts are one (`starts-append`, `width-append`). So to add one part and
-- then another is to add both (`add_add`), and growths join. One token, one key part or one value is a growth of its
-- own (`grows_token`, `grows_key`, `grows_value`). A value that is changed later is found by its number: the first that
-- was added has as its number how many values there were before.
--
-- Theorems: `grows_then`: what one part and then another add is what both add; `grows_changed`: the first value that
-- was added is changed; `width-append`: the widths of leaves add up.
use Rattle.std.proofs.Common.{◌≡◌, ℕ, ◌+◌, List, [], ◌∷◌, ◌++◌, length, refl, sym, ap, ◌∙◌, subst, append_assoc, arith}
use Rattle.std.proofs.Common.{IsCharBoundary}
use Rattle.std.specs.List.{AllByRecursion}
use Rattle.std.proofs.lemmas.List.{append-nil, length-append}
use Rattle.keep_types.specs.declared.leaf.Leaf.{Leaf}
use Rattle.keep_types.specs.declared.syntax.Statement.{Statement}
use Rattle.keep_types.specs.declared.syntax.KeyPart.{KeyPart}
use Rattle.keep_types.specs.declared.syntax.ValueInfo.{ValueInfo}
use Rattle.keep_syntax.specs.Tree.{Written, token, text_of}
use Rattle.keep_syntax.specs.Numbered.{width}
use Rattle.keep_syntax_store.specs.Flat.{Flat, with_token, with_key, with_value, ChangesValue}
use Rattle.keep_syntax.specs.Growth.{Taken, only, both, kinds, starts, add_at, Grows}
use Rattle.keep_syntax_store.proofs.Shared.{same_flat}
use Rattle.keep_syntax.proofs.SpaceLaws.{text_of-append}

-- ---- leaves

pub width-append : (a b : List Written) → width (a ++ b) ≡ width a + width b
width-append a b = ap length (text_of-append a b) ∙ length-append (text_of a) (text_of b)

pub kinds-append : (a b : List Written) → kinds (a ++ b) ≡ kinds a ++ kinds b
kinds-append [] b = refl
kinds-append (w ∷ ws) b = ap (λ (ls : List Leaf). w.leaf ∷ ls) (kinds-append ws b)

pub starts-append : (at : ℕ) (a b : List Written) → starts at (a ++ b) ≡ starts at a ++ starts (at + width a) b
starts-append at [] b = ap (λ (n : ℕ). starts n b) (omega arith)
starts-append at (w ∷ ws) b =
    let n : at + length w.text + width ws ≡ at + width (w ∷ ws) = omega (arith, length-append w.text (text_of ws)) in
    ap (λ (xs : List ℕ). at ∷ xs) (starts-append (at + length w.text) ws b
    ∙ ap (λ (k : ℕ). starts (at + length w.text) ws ++ starts k b) n)

all-append : (p : ℕ → Type 0) (xs ys : List ℕ) → AllByRecursion p xs → AllByRecursion p ys → AllByRecursion p (xs ++ ys)
all-append p [] ys h k = k
all-append p (x ∷ xs) ys h k = (h.0, all-append p xs ys h.1 k)

-- ---- parts

pub same_taken : (a b : Taken) → a.leaves ≡ b.leaves → a.statements ≡ b.statements → a.keys ≡ b.keys
    → a.values ≡ b.values → a ≡ b
same_taken a b e1 e2 e3 e4 =
    ap (λ (x : List Written). record a { leaves = x }) e1
    ∙ ap (λ (x : List Statement). record a { leaves = b.leaves; statements = x }) e2
    ∙ ap (λ (x : List KeyPart). record b { keys = x; values = a.values }) e3
    ∙ ap (λ (x : List ValueInfo). record b { values = x }) e4

pub add_nothing : (f : Flat) (at : ℕ) → add_at f at (only []) ≡ f
unfolding add_at
add_nothing f at =
    same_flat (add_at f at (only [])) f (append-nil f.kinds) (append-nil f.starts) (append-nil f.statements)
    (append-nil f.keys) (append-nil f.values)

pub add_add : (f : Flat) (at b : ℕ) (s t : Taken) → b ≡ at + width s.leaves
    → add_at (add_at f at s) b t ≡ add_at f at (both s t)
unfolding add_at
add_add f at b s t e =
    same_flat (add_at (add_at f at s) b t) (add_at f at (both s t))
    (append_assoc f.kinds (kinds s.leaves) (kinds t.leaves)
    ∙ ap (λ (x : List Leaf). f.kinds ++ x) (sym (kinds-append s.leaves t.leaves)))
    (append_assoc f.starts (starts at s.leaves) (starts b t.leaves)
    ∙ ap (λ (x : List ℕ). f.starts ++ x)
    (ap (λ (n : ℕ). starts at s.leaves ++ starts n t.leaves) e ∙ sym (starts-append at s.leaves t.leaves)))
    (append_assoc f.statements s.statements t.statements) (append_assoc f.keys s.keys t.keys)
    (append_assoc f.values s.values t.values)

pub grows_nothing : (text : List ℕ) (f : Flat) (at : ℕ) → Grows text f f at at (only [])
grows_nothing text f at = record { place = omega arith; stored = sym (add_nothing f at); bounds = tt }

-- one part after the other
pub grows_then : {text : List ℕ} {old mid new : Flat} {at b end : ℕ} {s t : Taken} → Grows text old mid at b s
    → Grows text mid new b end t → Grows text old new at end (both s t)
grows_then {text} {old} {mid} {new} {at} {b} {end} {s} {t} g h = record {
  place = omega (arith, g.place, h.place, width-append s.leaves t.leaves);
  stored = h.stored ∙ ap (λ (f : Flat). add_at f b t) g.stored ∙ add_add old at b s t g.place;
  bounds =
      let k : starts at s.leaves ++ starts b t.leaves ≡ starts at (s.leaves ++ t.leaves) =
      ap (λ (n : ℕ). starts at s.leaves ++ starts n t.leaves) g.place ∙ sym (starts-append at s.leaves t.leaves) in
      subst (AllByRecursion (IsCharBoundary text)) k
      (all-append (IsCharBoundary text) (starts at s.leaves) (starts b t.leaves) g.bounds h.bounds);
}

pub grows_as : {text : List ℕ} {old new : Flat} {at end : ℕ} {s : Taken} (t : Taken) → s ≡ t
    → Grows text old new at end s → Grows text old new at end t
grows_as {text} {old} {new} {at} {end} t e g = subst (λ (x : Taken). Grows text old new at end x) e g

pub grows_token : (text t : List ℕ) (leaf : Leaf) (old new : Flat) (at end : ℕ) → end ≡ at + length t
    → IsCharBoundary text at → new ≡ with_token leaf at old → Grows text old new at end (only (token leaf t))
unfolding add_at
grows_token text t leaf old new at end place bound e = record {
  place = omega (arith, append-nil t, ap length (append-nil t));
  stored =
      e ∙ same_flat (with_token leaf at old) (add_at old at (only (token leaf t))) refl refl
      (sym (append-nil old.statements)) (sym (append-nil old.keys)) (sym (append-nil old.values));
  bounds = (bound, tt);
}

abbrev pub one_key : KeyPart → Taken
one_key k = record { leaves = []; statements = []; keys = k ∷ []; values = [] }

abbrev pub one_value : ValueInfo → Taken
one_value v = record { leaves = []; statements = []; keys = []; values = v ∷ [] }

pub grows_key : (text : List ℕ) (k : KeyPart) (old new : Flat) (at : ℕ) → new ≡ with_key k old
    → Grows text old new at at (one_key k)
unfolding add_at
grows_key text k old new at e = record {
  place = omega arith;
  stored =
      e ∙ same_flat (with_key k old) (add_at old at (one_key k)) (sym (append-nil old.kinds))
      (sym (append-nil old.starts)) (sym (append-nil old.statements)) refl (sym (append-nil old.values));
  bounds = tt;
}

pub grows_value : (text : List ℕ) (v : ValueInfo) (old new : Flat) (at : ℕ) → new ≡ with_value v old
    → Grows text old new at at (one_value v)
unfolding add_at
grows_value text v old new at e = record {
  place = omega arith;
  stored =
      e ∙ same_flat (with_value v old) (add_at old at (one_value v)) (sym (append-nil old.kinds))
      (sym (append-nil old.starts)) (sym (append-nil old.statements)) (sym (append-nil old.keys)) refl;
  bounds = tt;
}

-- the first value that was added is changed
pub grows_changed : {text : List ℕ} {old mid new : Flat} {at end : ℕ} (change : ValueInfo → ValueInfo) (number : ℕ)
    (s : Taken) (v : ValueInfo) (vs : List ValueInfo)
    → s.values ≡ v ∷ vs → number ≡ length old.values → Grows text old mid at end s → ChangesValue change number mid new
    → Grows text old new at end (record s { values = change v ∷ vs })
unfolding add_at
grows_changed {text} {old} {mid} {new} {at} {end} change number s v vs is n g h =
    let held : mid.values ≡ old.values ++ (v ∷ vs) =
    ap (λ (f : Flat). f.values) g.stored ∙ ap (λ (x : List ValueInfo). old.values ++ x) is in
    record {
      place = g.place;
      stored =
          h old.values v vs (sym n) held
          ∙ ap (λ (f : Flat). record f { values = old.values ++ (change v ∷ vs) }) g.stored;
      bounds = g.bounds;
    }

-- how many there are then
pub grown_values : {text : List ℕ} {old new : Flat} {at end : ℕ} (s : Taken) → Grows text old new at end s
    → length new.values ≡ length old.values + length s.values
unfolding add_at
grown_values {text} {old} {new} s g = ap (λ (f : Flat). length f.values) g.stored ∙ length-append old.values s.values

pub grown_keys : {text : List ℕ} {old new : Flat} {at end : ℕ} (s : Taken) → Grows text old new at end s
    → length new.keys ≡ length old.keys + length s.keys
unfolding add_at
grown_keys {text} {old} {new} s g = ap (λ (f : Flat). length f.keys) g.stored ∙ length-append old.keys s.keys

pub grown_statements : {text : List ℕ} {old new : Flat} {at end : ℕ} (s : Taken) → Grows text old new at end s
    → length new.statements ≡ length old.statements + length s.statements
unfolding add_at
grown_statements {text} {old} {new} s g =
    ap (λ (f : Flat). length f.statements) g.stored ∙ length-append old.statements s.statements
