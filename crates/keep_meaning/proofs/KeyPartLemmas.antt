-- The key parts of a key, where it is in the text, mean the keys that the key means.
--
-- Theorems: `keys_mention`: they do so among other key parts; `IsPart`: what is a part of a list, at a place;
-- `part_taken`: it is what is taken from there.
use Rattle.std.proofs.Common.{◌≡◌, ℕ, suc, ◌+◌, ◌-◌, ◌≤◌, List, [], ◌∷◌, ◌++◌, length, map, take, drop, refl, sym, ◌∙◌}
use Rattle.std.proofs.Common.{ap, subst, arith, append_assoc, take_at, drop_at}
use Rattle.std.specs.List.{flat_map}
use Rattle.std.proofs.lemmas.List.{length-append, append-nil}
use Rattle.std.proofs.lemmas.List.Concat.{flat_map-append}
use Rattle.keep_types.specs.declared.leaf.Leaf.TheVariants as leaf
use Rattle.keep_types.specs.declared.syntax.KeyPart.{KeyPart}
use Rattle.keep_syntax.specs.Tree.{Written, Further, Key, token, further_leaves, key_leaves, text_of}
use Rattle.keep_syntax.specs.Numbered.{width, part_at, further_parts, key_parts, key_count}
use Rattle.keep_meaning.specs.Meaning.{key_value, further_value, keys_of, string_value}
use Rattle.keep_meaning.specs.KeyText.{part_text}
use Rattle.keep_meaning.specs.KeyText.{keys_in}
use Rattle.keep_meaning.proofs.PlaceLemmas.{length-further}

-- ---- a part of a list, at its place

pub record IsPart {A : Type 0} (xs : List A) (at : ℕ) (ys : List A) : Type 0 where
  pub prefix : List A
  pub after : List A
  pub place : length prefix ≡ at
  pub whole : xs ≡ prefix ++ (ys ++ after)

-- all of it
pub part_whole : {A : Type 0} (xs : List A) → IsPart xs 0 xs
part_whole xs = record { prefix = []; after = []; place = refl; whole = sym (append-nil xs) }

-- its two parts
pub part_left : {A : Type 0} (xs : List A) (at : ℕ) (a b : List A) → IsPart xs at (a ++ b) → IsPart xs at a
part_left xs at a b h =
    record {
      prefix = h.prefix;
      after = b ++ h.after;
      place = h.place;
      whole = h.whole
          ∙ ap (λ w. h.prefix ++ w) (append_assoc a b h.after);
    }

pub part_right : {A : Type 0} (xs : List A) (at : ℕ) (a b : List A) → IsPart xs at (a ++ b)
    → IsPart xs (at + length a) b
part_right xs at a b h = record {
  prefix = h.prefix ++ a;
  after = h.after;
  place = length-append h.prefix a ∙ ap (λ n. n + length a) h.place;
  whole = h.whole ∙ ap (λ w. h.prefix ++ w) (append_assoc a b h.after) ∙ sym (append_assoc h.prefix a (b ++ h.after));
}

-- by the number that its place has
pub part_placed : {A : Type 0} (xs : List A) (at to : ℕ) (ys : List A) → at ≡ to → IsPart xs at ys → IsPart xs to ys
part_placed xs at to ys e h = record { prefix = h.prefix; after = h.after; place = h.place ∙ e; whole = h.whole }

pub part_ends : {A : Type 0} (xs : List A) (at : ℕ) (ys : List A) → IsPart xs at ys → at + length ys ≤ length xs
part_ends xs at ys h =
    omega (arith, ap length h.whole, length-append h.prefix (ys ++ h.after), length-append ys h.after, h.place)

-- what is there
pub part_taken : {A : Type 0} (xs : List A) (at n : ℕ) (ys : List A) → IsPart xs at ys → length ys ≡ n
    → take n (drop at xs) ≡ ys
part_taken xs at n ys h e =
    ap (λ w. take n (drop at w)) h.whole ∙ ap (take n) (drop_at h.prefix (ys ++ h.after) at h.place)
    ∙ take_at ys h.after n e

-- ---- leaves in the text

-- leaves are spelled there
abbrev pub Spelled : List ℕ → ℕ → List Written → Type 0
Spelled bytes at ws = IsPart bytes at (text_of ws)

text_of-append : (a b : List Written) → text_of (a ++ b) ≡ text_of a ++ text_of b
text_of-append a b = flat_map-append (λ w. w.text) a b

pub spelled_left : (bytes : List ℕ) (at : ℕ) (a b : List Written) → Spelled bytes at (a ++ b) → Spelled bytes at a
spelled_left bytes at a b h =
    part_left bytes at (text_of a) (text_of b) (subst (λ (t : List ℕ). IsPart bytes at t) (text_of-append a b) h)

pub spelled_right : (bytes : List ℕ) (at : ℕ) (a b : List Written) → Spelled bytes at (a ++ b)
    → Spelled bytes (at + width a) b
spelled_right bytes at a b h =
    part_right bytes at (text_of a) (text_of b) (subst (λ (t : List ℕ). IsPart bytes at t) (text_of-append a b) h)

-- ---- keys

part_mentions : (bytes : List ℕ) (at : ℕ) (w : Written) → IsPart bytes at w.text
    → part_text bytes (part_at at w) ≡ key_value w
part_mentions bytes at w h =
    let n : length w.text ≡ at + length w.text - at = omega arith in
    ap (string_value w.leaf) (part_taken bytes at (at + length w.text - at) w.text h n)

further_mention : (bytes : List ℕ) (at : ℕ) (fs : List Further) → Spelled bytes at (flat_map further_leaves fs)
    → map (part_text bytes) (further_parts at fs) ≡ map further_value fs
further_mention bytes at [] h = refl
further_mention bytes at (f ∷ fs) h =
    let more : List Written = flat_map further_leaves fs in
    let dot : List Written = token leaf.Dot (0x2E ∷ []) in
    let from : ℕ = at + width f.before + 1 + width f.after in
    let split : further_leaves f ++ more ≡ f.before ++ (dot ++ (f.after ++ (f.part ∷ more))) = simp append_assoc in
    let text : Spelled bytes at (f.before ++ (dot ++ (f.after ++ (f.part ∷ more)))) =
    subst (Spelled bytes at) split h in
    let a : Spelled bytes (at + width f.before) (dot ++ (f.after ++ (f.part ∷ more))) =
    spelled_right bytes at f.before (dot ++ (f.after ++ (f.part ∷ more))) text in
    let b : Spelled bytes (at + width f.before + 1) (f.after ++ (f.part ∷ more)) =
    spelled_right bytes (at + width f.before) dot (f.after ++ (f.part ∷ more)) a in
    let c : Spelled bytes from (f.part ∷ more) =
    spelled_right bytes (at + width f.before + 1) f.after (f.part ∷ more) b in
    ap (λ (k : List ℕ). k ∷ map (part_text bytes) (further_parts (from + length f.part.text) fs))
    (part_mentions bytes from f.part (part_left bytes from f.part.text (text_of more) c))
    ∙ ap (λ (ks : List (List ℕ)). key_value f.part ∷ ks)
    (further_mention bytes (from + length f.part.text) fs (part_right bytes from f.part.text (text_of more) c))

-- the key parts of a key that is spelled there
pub key_parts_mention : (bytes : List ℕ) (at : ℕ) (k : Key) → Spelled bytes at (key_leaves k)
    → map (part_text bytes) (key_parts at k) ≡ keys_of k
key_parts_mention bytes at k h =
    let more : List Written = flat_map further_leaves k.more in
    ap (λ (t : List ℕ). t ∷ map (part_text bytes) (further_parts (at + length k.first.text) k.more))
    (part_mentions bytes at k.first (part_left bytes at k.first.text (text_of more) h))
    ∙ ap (λ (ts : List (List ℕ)). key_value k.first ∷ ts)
    (further_mention bytes (at + length k.first.text) k.more (part_right bytes at k.first.text (text_of more) h))

pub length-key_parts : (at : ℕ) (k : Key) → length (key_parts at k) ≡ key_count k
length-key_parts at k = ap suc (length-further (at + length k.first.text) k.more)

-- a key's parts, among other key parts, mean the keys that the key means
pub keys_mention : (bytes : List ℕ) (parts : List KeyPart) (at first : ℕ) (k : Key) → Spelled bytes at (key_leaves k)
    → IsPart parts first (key_parts at k) → keys_in bytes parts first (key_count k) ≡ keys_of k
keys_mention bytes parts at first k text among =
    ap (map (part_text bytes)) (part_taken parts first (key_count k) (key_parts at k) among (length-key_parts at k))
    ∙ key_parts_mention bytes at k text

pub keys_within : (parts : List KeyPart) (at first : ℕ) (k : Key) → IsPart parts first (key_parts at k)
    → first + key_count k ≤ length parts
keys_within parts at first k among = omega (arith, part_ends parts first (key_parts at k) among, length-key_parts at k)
