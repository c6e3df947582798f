-- What comes at the end of the text, as it is gone through and as one edit more comes there.
--
-- The blocks are looked at one by one, from the first on. What is known of them so far goes on to one more: which is
-- the last whose header goes through a table (`LastOf`), and what inserts come below each (`LetsAt`).
--
-- Theorems: `goes_through`, `same_text`: a header whose keys are those of a table, and more; `one_more`: of one more;
-- `passes_on`, `last_is`: the last header that goes through a table; `lets_none`, `lets_one`, `none_by`, `lets_all`:
-- inserts into no other table; `block_found`, `block_there`: below whose header one more comes; `bytes_more`,
-- `bytes_one`, `bytes_same`: what is written; `pushed`, `pushed_unless`, `not_pushed`: what a push leaves; `put_below`:
-- an insert more.
use Rattle.std.proofs.Common.{◌≡◌, ◌≢◌, ◌<◌, ◌+◌, ◌∷◌, ◌++◌, ◌∙◌, [], ℕ, zero, suc, All, List, None, Option, Some}
use Rattle.std.proofs.Common.{ap, ap₂, arith, drop, get_or, inl, inr, length, map, refl, slice_get, subst, sym, take}
use Rattle.std.proofs.Common.{Bool, false, set, string_bytes, true}
use Rattle.std.specs.Prelude.{◌⊎◌, Err, IfSome, Ok, Result, if◌then◌else◌, unwrap_or}
use Rattle.std.specs.Result.{is_err, is_ok}
use Rattle.std.specs.Str.{bytes_eq}
use Rattle.std.proofs.lemmas.List.{append_assoc, append-nil, drop_more, length-take-le, set_at, take-append-drop}
use Rattle.std.proofs.lemmas.List.{take_more}
use Rattle.std.proofs.lemmas.Option.{slice_get_read, slice_get_within}
use Rattle.std.proofs.lemmas.List.Elements.{All-append, All-cons, All-head, All-nil, All-push, All-tail, All-weaker}
use Rattle.std.proofs.lemmas.Slice.Eq.{bytes_eq-Decides}
use Rattle.keep_path.specs.Path.{Part, key, strip}
use Rattle.keep_edit_spec.specs.HeadersBelow.{GoThrough}
use Rattle.keep_edit_spec.specs.Runs.{PassesBy}
use Rattle.keep_edit_runs.specs.Tail.{IsBlockFor, IsBlockOf, IsLastThrough, IsPutBelow, LetsTable, bytes_of, keys_of}
use Rattle.keep_edit_runs.specs.declared.tail.Block.{Block}

-- ---- the keys of a header and a table

pub goes_through : (keys : List (List ℕ)) (table : List Part) → length table < length keys
    → ((n : ℕ) → n < length table → slice_get table n ≡ slice_get (map key keys) n) → GoThrough keys table
goes_through [] table lt each = absurd (omega (arith, lt))
goes_through (k ∷ ks) [] lt each = (k, (ks, refl))
goes_through (k ∷ ks) (p ∷ table) lt each =
    let e : Some p ≡ Some (key k) = each 0 (omega arith) in
    let first : key k ≡ p = cc in
    let (other, (rest, same)) =
    goes_through ks table (omega (arith, lt)) (λ n less. each (suc n) (omega (arith, less))) in
    (other, (rest, ap₂ (λ (q : Part) (l : List Part). q ∷ l) first same))

-- two texts that were found to be the same
pub same_text : {x y a b : List ℕ} {r : Bool} → r ≡ bytes_eq x y → r ≡ true → x ≡ a → y ≡ b → a ≡ b
same_text {x = x} {y = y} test holds own its = sym own ∙ (bytes_eq-Decides x y).0 (sym test ∙ holds) ∙ its

-- ---- one block more

-- what holds of those so far and one more
pub one_more : (P : List Block → Type 0) (blocks : List Block) (n : ℕ) (b : Block) → n < length blocks
    → b ≡ get_or blocks n b → P (take n blocks ++ b ∷ []) → P (take (n + 1) blocks)
one_more P blocks n b lt is h =
    subst P (ap (λ (a : Block). take n blocks ++ a ∷ []) is ∙ sym (take_more blocks n b lt)) h

-- ---- the last header that goes through a table

-- the number of the last of these blocks that does, where all others pass by it or go through it; none if all pass by
abbrev pub LastOf : List Block → List Part → Option ℕ → Type 0
LastOf blocks table None = All (λ b. PassesBy (keys_of b) table) blocks
LastOf blocks table (Some n) = IsLastThrough blocks table n

abbrev PassesOrThrough : List Part → Block → Type 0
PassesOrThrough table b = PassesBy (keys_of b) table ⊎ GoThrough (keys_of b) table

-- one more that passes by it
pub passes_on : (blocks : List Block) (b : Block) (table : List Part) (last : Option ℕ) → LastOf blocks table last
    → PassesBy (keys_of b) table → LastOf (blocks ++ b ∷ []) table last
passes_on blocks b table None all passes = All-push (λ a. PassesBy (keys_of a) table) blocks b all passes
passes_on blocks b table (Some n) k passes = record {
  before = k.before;
  block = k.block;
  after = k.after ++ b ∷ [];
  is = ap (λ (l : List Block). l ++ b ∷ []) k.is ∙ append_assoc k.before (k.block ∷ k.after) (b ∷ []);
  number = k.number;
  through = k.through;
  earlier = k.earlier;
  later = All-push (λ a. PassesBy (keys_of a) table) k.after b k.later passes;
}

all_pass_or_through : (blocks : List Block) (table : List Part) (last : Option ℕ) → LastOf blocks table last
    → All (PassesOrThrough table) blocks
all_pass_or_through blocks table None all =
    All-weaker (λ b. PassesBy (keys_of b) table) (PassesOrThrough table) (λ b passes. inl passes) blocks all
all_pass_or_through blocks table (Some n) k =
    subst (All (PassesOrThrough table)) (sym k.is)
    (All-append (PassesOrThrough table) k.before (k.block ∷ k.after) k.earlier
    (All-cons (PassesOrThrough table) k.block k.after (inr k.through)
    (All-weaker (λ b. PassesBy (keys_of b) table) (PassesOrThrough table) (λ b passes. inl passes) k.after k.later)))

-- one more that goes through it
pub last_is : (blocks : List Block) (b : Block) (table : List Part) (last : Option ℕ) → LastOf blocks table last
    → GoThrough (keys_of b) table → LastOf (blocks ++ b ∷ []) table (Some (length blocks))
last_is blocks b table last known through = record {
  before = blocks;
  block = b;
  after = [];
  is = refl;
  number = refl;
  through = through;
  earlier = all_pass_or_through blocks table last known;
  later = All-nil (λ a. PassesBy (keys_of a) table);
}

-- ---- the tables of inserts below headers

-- the inserts below the header with number k are into this table, if that is number n; else into none at it or below
abbrev pub LetsAt : List Block → ℕ → List Part → ℕ → Type 0
LetsAt blocks n table k =
    (b : Block) → slice_get blocks k ≡ Some b → (t : List Part) → b.table ≡ Some t
    → (k ≡ n → t ≡ table) × (k ≢ n → strip table t ≡ None)

-- the one that is read there is the one there
read_there : (blocks : List Block) (k : ℕ) (own b : Block) → k < length blocks → own ≡ get_or blocks k own
    → slice_get blocks k ≡ Some b → own ≡ b
read_there blocks k own b lt is there =
    let same : Some own ≡ Some b = sym (slice_get_read blocks (length blocks) k own refl lt is) ∙ there in cc

-- one below which none come, and one below which some do
module _ (blocks : List Block) (n : ℕ) (table : List Part) (k : ℕ) (own : Block) (lt : k < length blocks)
    (is : own ≡ get_or blocks k own) where
  pub lets_none : own.table ≡ None → LetsAt blocks n table k
  lets_none none b there t has =
      let same = read_there blocks k own b lt is there in
      let both : None ≡ Some t = sym none ∙ ap (λ (a : Block). a.table) same ∙ has in absurd cc

  pub lets_one : (other : List Part) → own.table ≡ Some other → (k ≡ n → other ≡ table)
      → (k ≢ n → strip table other ≡ None) → LetsAt blocks n table k
  lets_one other some here elsewhere b there t has =
      let same = read_there blocks k own b lt is there in
      let both : Some other ≡ Some t = sym some ∙ ap (λ (a : Block). a.table) same ∙ has in
      let its : other ≡ t = cc in
      (λ at. sym its ∙ here at, λ off. subst (λ (q : List Part). strip table q ≡ None) its (elsewhere off))

-- where a test of it says no, there is none
pub none_by : {A : Type 0} (b : Bool) (o : Option A) → (o ≢ None → b ≡ true) → b ≡ false → o ≡ None
none_by b None test it_says = refl
none_by b (Some a) test it_says =
    let both : true ≡ false = sym (test (λ e. absurd cc)) ∙ it_says in absurd cc

-- what holds of each by its number holds of all
all_by : {A : Type 0} (P : A → Type 0) (xs : List A) → ((k : ℕ) (x : A) → slice_get xs k ≡ Some x → P x) → All P xs
all_by P [] each = All-nil P
all_by P (x ∷ xs) each = All-cons P x xs (each 0 x refl) (all_by P xs (λ k y is. each (suc k) y is))

in_front : {A : Type 0} (before after : List A) (k : ℕ) (x : A) → slice_get before k ≡ Some x
    → (slice_get (before ++ after) k ≡ Some x) × (k < length before)
in_front [] after k x is = absurd cc
in_front (y ∷ before) after zero x is = (is, omega arith)
in_front (y ∷ before) after (suc k) x is =
    let (there, less) = in_front before after k x is in (there, omega (arith, less))

behind : {A : Type 0} (before after : List A) (k : ℕ)
    → slice_get (before ++ after) (length before + k) ≡ slice_get after k
behind [] after k = ap (slice_get after) (let e : 0 + k ≡ k = omega arith in e)
behind (y ∷ before) after k =
    ap (slice_get (y ∷ before ++ after)) (let e : suc (length before) + k ≡ suc (length before + k) = omega arith in e)
    ∙ behind before after k

pub lets_all : (blocks : List Block) (n : ℕ) (table : List Part)
    → ((k : ℕ) → k < length blocks → LetsAt blocks n table k) → LetsTable blocks n table
lets_all blocks n table each before block after is many = (
  λ t has. (at (length before) block here t has).0 many,
  All-append Others before after (all_by Others before in_before) (all_by Others after in_after),
)
  where
    Others : Block → Type 0
    Others b = (t : List Part) → b.table ≡ Some t → strip table t ≡ None

    at : (k : ℕ) (b : Block) → slice_get (before ++ block ∷ after) k ≡ Some b → (t : List Part) → b.table ≡ Some t
        → (k ≡ n → t ≡ table) × (k ≢ n → strip table t ≡ None)
    at k b there =
        let own : slice_get blocks k ≡ Some b = ap (λ (l : List Block). slice_get l k) is ∙ there in
        each k (slice_get_within blocks k b own) b own

    here : slice_get (before ++ block ∷ after) (length before) ≡ Some block
    here =
        ap (slice_get (before ++ block ∷ after)) (let e : length before ≡ length before + 0 = omega arith in e)
        ∙ behind before (block ∷ after) 0

    in_before : (k : ℕ) (b : Block) → slice_get before k ≡ Some b → Others b
    in_before k b there t has =
        let (own, less) = in_front before (block ∷ after) k b there in
        (at k b own t has).1 (λ same. absurd (omega (arith, same, less, many)))

    in_after : (k : ℕ) (b : Block) → slice_get after k ≡ Some b → Others b
    in_after k b there t has =
        (at (length before + suc k) b (behind before (block ∷ after) (suc k) ∙ there) t has).1
        (λ same. absurd (omega (arith, same, many)))

-- ---- the block below whose header an insert comes

-- what holds of all of two lists holds of all of each
pub all_of_first : (P : Block → Type 0) (first last : List Block) → All P (first ++ last) → All P first
all_of_first P [] last h = All-nil P
all_of_first P (x ∷ first) last h =
    All-cons P x first (All-head P x (first ++ last) h) (all_of_first P first last (All-tail P x (first ++ last) h))

pub all_of_last : (P : Block → Type 0) (first last : List Block) → All P (first ++ last) → All P last
all_of_last P [] last h = h
all_of_last P (x ∷ first) last h = all_of_last P first last (All-tail P x (first ++ last) h)

-- the one below which others into the table came
block_with : (blocks : List Block) (table : List Part) (n last : ℕ) → IsLastThrough blocks table last
    → IsBlockOf blocks table n → LetsTable blocks n table → IsBlockFor blocks table n
block_with blocks table n last l k lets = record {
  before = k.before;
  block = k.block;
  after = k.after;
  is = k.is;
  number = k.number;
  own = (lets k.before k.block k.after k.is k.number).0;
  last = λ none. absurd (let both : None ≡ Some table = sym none ∙ k.into in cc);
  others = All-append (PassesOrThrough table) k.before k.after
      (all_of_first (PassesOrThrough table) k.before (k.block ∷ k.after) all)
      (All-tail (PassesOrThrough table) k.block k.after
      (all_of_last (PassesOrThrough table) k.before (k.block ∷ k.after) all));
  apart = (lets k.before k.block k.after k.is k.number).1;
}
  where
    all : All (PassesOrThrough table) (k.before ++ k.block ∷ k.after)
    all = subst (All (PassesOrThrough table)) k.is (all_pass_or_through blocks table (Some last) l)

-- the last one
block_last : (blocks : List Block) (table : List Part) (n : ℕ) → IsLastThrough blocks table n
    → LetsTable blocks n table → IsBlockFor blocks table n
block_last blocks table n l lets = record {
  before = l.before;
  block = l.block;
  after = l.after;
  is = l.is;
  number = l.number;
  own = (lets l.before l.block l.after l.is l.number).0;
  last = λ none. (l.through, l.later);
  others = All-append (PassesOrThrough table) l.before l.after l.earlier
      (All-weaker (λ b. PassesBy (keys_of b) table) (PassesOrThrough table) (λ b passes. inl passes) l.after l.later);
  apart = (lets l.before l.block l.after l.is l.number).1;
}

-- the blocks before the one with that number, it, and those after it
parted : (blocks : List Block) (n : ℕ) (b : Block) → n < length blocks → b ≡ get_or blocks n b
    → blocks ≡ take n blocks ++ b ∷ drop (n + 1) blocks
parted blocks n b lt is =
    sym (take-append-drop n blocks)
    ∙ ap (λ (l : List Block). take n blocks ++ l)
    (drop_more blocks n b lt ∙ ap (λ (a : Block). a ∷ drop (n + 1) blocks) (sym is))

-- either, as it was found
pub block_found : (blocks : List Block) (table : List Part) (last : ℕ) (own : Option ℕ)
    → IsLastThrough blocks table last → IfSome own (IsBlockOf blocks table)
    → LetsTable blocks (unwrap_or own last) table → IsBlockFor blocks table (unwrap_or own last)
block_found blocks table last None l k lets = block_last blocks table last l lets
block_found blocks table last (Some n) l k lets = block_with blocks table n last l k lets

-- the one with that number, into whose table inserts come
pub block_there : (blocks : List Block) (n : ℕ) (b : Block) (table : List Part) → n < length blocks
    → b ≡ get_or blocks n b → b.table ≡ Some table → IsBlockOf blocks table n
block_there blocks n b table lt is into = record {
  before = take n blocks;
  block = b;
  after = drop (n + 1) blocks;
  is = parted blocks n b lt is;
  number = length-take-le n blocks (omega (arith, lt));
  into = into;
}

-- ---- what is written

pub bytes_more : (blocks more : List Block) → bytes_of (blocks ++ more) ≡ bytes_of blocks ++ bytes_of more
bytes_more [] more = refl
bytes_more (b ∷ blocks) more =
    ap (λ (l : List ℕ). string_bytes b.text ++ l) (bytes_more blocks more)
    ∙ sym (append_assoc (string_bytes b.text) (bytes_of blocks) (bytes_of more))

pub bytes_one : (blocks : List Block) (b : Block) → bytes_of (blocks ++ b ∷ []) ≡ bytes_of blocks ++ string_bytes b.text
bytes_one blocks b =
    bytes_more blocks (b ∷ [])
    ∙ ap (λ (l : List ℕ). bytes_of blocks ++ l) (append-nil (string_bytes b.text))

-- after a push that went well, and after one that did not
pub pushed : {A E : Type 0} {X : Type 0} (r : Result A E) (new with_it old : X)
    → new ≡ (if is_ok r then with_it else old) → is_ok r ≡ true → new ≡ with_it
pushed (Ok a) new with_it old is ok = is
pushed (Err e) new with_it old is ok = absurd cc

pub pushed_unless : {A E : Type 0} {X : Type 0} (r : Result A E) (new with_it old : X)
    → new ≡ (if is_ok r then with_it else old) → is_err r ≡ false → new ≡ with_it
pushed_unless (Ok a) new with_it old is none = is
pushed_unless (Err e) new with_it old is none = absurd cc

pub not_pushed : {A E : Type 0} {X : Type 0} (r : Result A E) (new with_it old : X)
    → new ≡ (if is_ok r then with_it else old) → is_err r ≡ true → new ≡ old
not_pushed (Ok a) new with_it old is error = absurd cc
not_pushed (Err e) new with_it old is error = is

-- ---- one block changed

changed_at : (blocks : List Block) (n : ℕ) (b now : Block) → n < length blocks → b ≡ get_or blocks n b
    → set blocks n now ≡ take n blocks ++ now ∷ drop (n + 1) blocks
changed_at blocks n b now lt is =
    ap (λ (l : List Block). set l n now) (parted blocks n b lt is)
    ∙ set_at (take n blocks) b (drop (n + 1) blocks) now n (length-take-le n blocks (omega (arith, lt)))

-- one that writes what it did
pub bytes_same : (blocks : List Block) (n : ℕ) (b now : Block) → n < length blocks → b ≡ get_or blocks n b
    → string_bytes now.text ≡ string_bytes b.text → bytes_of (set blocks n now) ≡ bytes_of blocks
bytes_same blocks n b now lt is same =
    let before = take n blocks in
    let after = drop (n + 1) blocks in
    ap bytes_of (changed_at blocks n b now lt is) ∙ bytes_more before (now ∷ after)
    ∙ ap (λ (l : List ℕ). bytes_of before ++ (l ++ bytes_of after)) same
    ∙ sym (bytes_more before (b ∷ after)) ∙ ap bytes_of (sym (parted blocks n b lt is))

-- one below which an insert more comes
pub put_below : (blocks : List Block) (n : ℕ) (b now : Block) (table : List Part) (text : List ℕ) → n < length blocks
    → b ≡ get_or blocks n b → now.keys ≡ b.keys → now.table ≡ Some table
    → string_bytes now.text ≡ string_bytes b.text ++ text → IsPutBelow blocks n table text (set blocks n now)
put_below blocks n b now table text lt is keys own bytes = record {
  before = take n blocks;
  block = b;
  after = drop (n + 1) blocks;
  was = parted blocks n b lt is;
  number = length-take-le n blocks (omega (arith, lt));
  now = now;
  is = changed_at blocks n b now lt is;
  keys_are = keys;
  table_is = own;
  text_is = bytes;
}
