-- Lines that are composed twice: first to find the longest, and then in the room that was taken.
--
-- Theorems: `fit_all`: once no further line is left, each fits the room that was found; `line_added`: the path of an
-- entry, and what comes after it, are its line; `no_lack`: with room for the line, there is room for what comes after
-- the path.
use Rattle.std.proofs.Common.{◌≡◌, ◌++◌, ◌+◌, ◌<◌, ◌≤◌, ℕ, List, [], ◌∷◌, length, take, sym, ap, subst, ◌∙◌, ◌⊎◌}
use Rattle.std.proofs.Common.{append_assoc, refl, length-append, arith, append-nil, Option, Some, None, inl, inr, true}
use Rattle.std.proofs.Common.{false, rules}
use Rattle.std.specs.Prelude.{slice_get, is_err, codes, IfSome, IsOk, OnErr, OnOk, Result, Ok, Err, String}
use Rattle.std.specs.Prelude.{string_bytes, string_capacity, string_len}
use Rattle.std.specs.Global.{Global}
use Rattle.std.proofs.lemmas.Grind.{common_steps}
use Rattle.std.proofs.lemmas.List.{flat_map_more, take_all, take_more}
use Rattle.std.proofs.lemmas.Option.{slice_get_cases}
use Rattle.keep_syntax.specs.Tree.{Document}
use Rattle.keep_edit.specs.declared.document.Entry.{Entry}
use Rattle.keep_types.specs.declared.node.Kind.{Kind}
use Rattle.keep_path.specs.PathText.{encoded_path}
use Rattle.keep_edit.specs.Answers.{AddsEntryPath}
use Rattle.keep_commands.specs.Answer.{entry_line, kind_word, lines_of}
use Rattle.keep_commands.specs.Lines.{line_at, line_of, FitsLine, HasBlockRoom, HasLineRoom}

-- the lines before a number, and that of the number, are those before the next one
pub lines_next : (entries : List Entry) (n : ℕ)
    → lines_of (take (n + 1) entries) ≡ lines_of (take n entries) ++ line_at entries n
lines_next entries n = elim (slice_get_cases entries n).1 [
  | inl r ↦
      let x : Entry = r.0 in
      ap lines_of (take_more entries n x r.1)
      ∙ ap (λ y. lines_of (take n entries ++ y ∷ [])) r.3
      ∙ sym (flat_map_more entry_line [] (take n entries) x)
      ∙ ap (λ (o : Option Entry). lines_of (take n entries) ++ line_of o) (sym r.2)
  | inr r ↦
      ap lines_of (take_all (n + 1) entries (omega (arith, r.0)) ∙ sym (take_all n entries r.0))
      ∙ sym (append-nil (lines_of (take n entries)))
      ∙ ap (λ (o : Option Entry). lines_of (take n entries) ++ line_of o) (sym r.1)
]

-- ---- the longest line

-- more room is room too
fits_wider : (nodes more longest longer : ℕ) (o : Option Entry) → nodes ≤ more → longest ≤ longer
    → FitsLine nodes longest o → FitsLine more longer o
fits_wider nodes more longest longer None h k f = tt
fits_wider nodes more longest longer (Some e) h k f = (omega (arith, h, f.0), omega (arith, k, f.1))

fits_here : (nodes longest : ℕ) (o : Option Entry) → IfSome o (λ e. length e.path ≤ nodes)
    → length (line_of o) ≤ longest → FitsLine nodes longest o
fits_here nodes longest None h k = tt
fits_here nodes longest (Some e) h k = (h, k)

-- so many lines have room
abbrev pub FitBefore : List Entry → ℕ → ℕ → ℕ → Type 0
FitBefore entries n nodes longest = (k : ℕ) → k < n → FitsLine nodes longest (slice_get entries k)

pub fit_next : (entries : List Entry) (n nodes more longest longer : ℕ) → FitBefore entries n nodes longest
    → nodes ≤ more → longest ≤ longer → IfSome (slice_get entries n) (λ e. length e.path ≤ more)
    → length (line_at entries n) ≤ longer → FitBefore entries (n + 1) more longer
fit_next entries n nodes more longest longer before h l steps line = λ k less. elim (less_or_same k n less) [
  | inl low ↦ fits_wider nodes more longest longer (slice_get entries k) h l (before k low)
  | inr same ↦
      subst (λ (i : ℕ). FitsLine more longer (slice_get entries i)) (sym same)
      (fits_here more longer (slice_get entries n) steps line)
]
  where
    less_or_same : (k n : ℕ) → k < n + 1 → (k < n) ⊎ (k ≡ n)
    less_or_same k n less = grind arith

-- where there is no further line, all have
pub fit_all : (entries : List Entry) (n nodes longest : ℕ) → length entries ≤ n → FitBefore entries n nodes longest
    → (k : ℕ) → FitsLine nodes longest (slice_get entries k)
fit_all entries n nodes longest past before k = elim (slice_get_cases entries k).1 [
  | inl r ↦ before k (omega (arith, past, r.1))
  | inr r ↦ subst (λ (o : Option Entry). FitsLine nodes longest o) (sym r.1) tt
]

-- ---- a block

-- after the bytes of a text
pub line_room : (nodes longest : ℕ) (out : String Global) (o : Option Entry) → FitsLine nodes longest o
    → length (string_bytes out) + longest ≤ string_capacity out → HasLineRoom nodes out o
line_room nodes longest out None fits room = tt
line_room nodes longest out (Some e) fits room = (fits.0, omega (arith, fits.1, room))

pub block_room : (s : Document) (nodes more bytes further : ℕ) → HasBlockRoom s nodes bytes → nodes ≤ more
    → bytes ≤ further → HasBlockRoom s more further
block_room s nodes more bytes further has h k = record {
  longest = has.longest;
  lines = record {
    each = λ n. fits_wider nodes more has.longest has.longest _ h (omega arith) (has.lines.each n);
    all = has.lines.all;
  };
  block = omega (arith, has.block, k);
}

pub len_is : (s : String Global) → string_len s ≡ length (string_bytes s)
len_is s = first_of (search rules, grind (arith, common_steps))

-- what was done and did not fail
pub not_failed : {T E P : Type 0} (r : Result T E) → false ≡ is_err r → OnOk r P → P
not_failed (Ok x) e p = p
not_failed (Err f) e p = absurd (let no : false ≡ true = e in cc)

pub not_both : {T E : Type 0} (r : Result T E) → true ≡ is_err r → IsOk r → ⊥
not_both (Ok x) e p = let no : true ≡ false = e in cc
not_both (Err f) e p = let no : false ≡ true = p in cc

-- ---- one line

-- the path of an entry, and what comes after it, are its line
pub line_added : (o : Option Entry) (kind : Kind) (old mid new : List ℕ) → AddsEntryPath o (Some kind) old mid
    → new ≡ mid ++ (codes "\t" ++ (kind_word kind ++ codes "\n")) → new ≡ old ++ line_of o
line_added None kind old mid new added is = let no : Some kind ≡ None = added.0 in absurd cc
line_added (Some e) kind old mid new added is =
    let same : kind ≡ e.kind = (let k : Some kind ≡ Some e.kind = added.0 in cc) in
    is ∙ ap (λ t. t ++ (codes "\t" ++ (kind_word kind ++ codes "\n"))) added.1
    ∙ append_assoc old (encoded_path e.path) (codes "\t" ++ (kind_word kind ++ codes "\n"))
    ∙ ap (λ k. old ++ (encoded_path e.path ++ (codes "\t" ++ (kind_word k ++ codes "\n")))) same

-- where there is room for the line, there is for what comes after its path
pub no_lack : (o : Option Entry) (kind : Kind) (nodes more : ℕ) (out : String Global) (mid : List ℕ)
    → AddsEntryPath o (Some kind) (string_bytes out) mid → HasLineRoom nodes out o → string_capacity out ≤ more
    → more < length mid + length (codes "\t" ++ (kind_word kind ++ codes "\n")) → ⊥
no_lack None kind nodes more out mid added room grown less = let no : Some kind ≡ None = added.0 in absurd cc
no_lack (Some e) kind nodes more out mid added room grown less =
    let rest : List ℕ = codes "\t" ++ (kind_word kind ++ codes "\n") in
    let line : mid ++ rest ≡ string_bytes out ++ entry_line e =
    line_added (Some e) kind (string_bytes out) mid (mid ++ rest) added refl in
    omega (
      arith,
      ap length line,
      length-append mid rest,
      length-append (string_bytes out) (entry_line e),
      room.1,
      grown,
      less,
    )

pub on_ok : {T E P Q : Type 0} (r : Result T E) → (P → Q) → OnOk r P → OnOk r Q
on_ok (Ok x) f p = f p
on_ok (Err e) f p = tt

pub ok_of : {T E P : Type 0} (r : Result T E) → OnErr r P → (P → ⊥) → IsOk r
ok_of (Ok x) p none = refl
ok_of (Err e) p none = absurd (none p)
