-- Where an element of an array of tables begins: some line begins it, no value is there, and `remove` makes a change.
--
-- Only a `[[..]]` line mentions that an element begins (`content_begun`). So some line passes the test for beginning it
-- (`some_begins`), and `remove` takes lines out there, unless one of its other searches comes first
-- (`some_of_element`). A value or an item at the path is in a keyval's value, which is alone at a prefix of the path
-- that ends in a key (`lines_held`). But the element's line mentions each such prefix (`line_headed`), and no such
-- mention may be beside a value (`no_both`).
--
-- Theorems: `some_begins`: a line begins the element; `some_of_element`: `remove` makes a change; `begun_alone`: no
-- value or item is there.
use Rattle.std.proofs.Common.{◌≡◌, ℕ, suc, Bool, true, false, not, ◌&&◌, List, [], ◌∷◌, ◌++◌, map, drop, refl, sym, ap}
use Rattle.std.proofs.Common.{subst, ◌∙◌, append_assoc, Option, Some, None, inl, inr}
use Rattle.std.proofs.lemmas.Bool.{and_parts}
use Rattle.keep_syntax.specs.Tree.{Written, Gap, Content, blank, keyval, header, element, Line, Document}
use Rattle.keep_path.specs.Path.{Part, index, same_path}
use Rattle.keep_meaning.specs.Marks as marks_of
use Rattle.keep_meaning.specs.Marks.{MentionKind, define, begun, Mention, Reading, start, below, elements_of}
use Rattle.keep_meaning.specs.Marks.{header_path, header_prefixes}
use Rattle.keep_meaning.specs.Meaning.{key_value, further_value, keys_of, keyval_mentions, line_mentions, after_line}
use Rattle.keep_meaning.specs.Meaning.{lines_mentions, lines, mentions_in}
use Rattle.keep_meaning.specs.Nodes.{is_begun}
use Rattle.keep_edit_spec.specs.Changed.{Changed, or_else}
use Rattle.keep_edit_spec.specs.Values.{removal}
use Rattle.keep_edit_spec.specs.Lines.{in_document, in_lines, last_line, begins, body_length}
use Rattle.keep_edit_spec.specs.Edits.{remove, change, nested, is_own, clear_line, without_lines}
use Rattle.keep_edit_spec.proofs.Common.Runs.{AllOf, SomeOf, all_join, meet, some_left, some_right, Rules, solid}
use Rattle.keep_edit_spec.proofs.Common.Runs.{exclusive, same_path-refl}
use Rattle.keep_edit_spec.proofs.Common.SetLaw.{IsAloneAt, IsSolidAt}
use Rattle.keep_edit_spec.proofs.Common.LineLaws.{Reaches, EndsInKey, index_cases, never_root, header_all}
use Rattle.keep_edit_spec.proofs.Common.LineLaws.{header_closed}
use Rattle.keep_edit_spec.proofs.Common.Doubles.{IsMentioned}
use Rattle.keep_edit_spec.proofs.Common.ValueThere.{IsSome, some_first, some_second, some_cases}
use Rattle.keep_edit_spec.proofs.Common.RemoveThere.{some_here, some_later, dropped}
use Rattle.keep_edit_spec.proofs.Remove.RemoveRefusal.{IsShared, no_both, plain_prefixes}
use Rattle.keep_edit_spec.proofs.Append.AppendElement.{IsHeld, Open, open_prefixes, lines_held}
use Rattle.keep_edit_spec.proofs.Remove.KeyvalMentions.{mentioned_below, mentions_keyval}

-- ---- the line that begins it

never : (p : List Part) (ms : List Mention) → AllOf (λ (m : Mention). is_begun m.kind ≡ false) ms
    → SomeOf (IsMentioned is_begun p) ms → ⊥
never p [] h s = s
never p (m ∷ ms) h (inl s) =
    let none : is_begun m.kind ≡ false = h.0 in let some : is_begun m.kind ≡ true = s.1 in absurd cc
never p (m ∷ ms) h (inr s) = never p ms h.1 s

-- it is an element's line
record IsBegunBy (p : List Part) (r : Reading) (mentioned : List Mention) : Type 0 where
  first : List ℕ
  more : List (List ℕ)
  number : ℕ
  place : header_path r.tables [] (first ∷ more) ++ index number ∷ [] ≡ p
  rest : List Mention
  is : mentioned ≡ header_all r.tables [] (first ∷ more) marks_of.element ++ rest

content_begun : (p : List Part) (r : Reading) (before after' : Gap) (comment : Option Written) (c : Content)
    → (let l : Line = record { before = before; content = c; after = after'; comment = comment } in
    SomeOf (IsMentioned is_begun p) (line_mentions r l) → (begins p r l ≡ true) × IsBegunBy p r (line_mentions r l))
content_begun p r before after' comment blank s = absurd s
content_begun p r before after' comment (keyval name v) s =
    absurd (never p (map (below r.body) (keyval_mentions name v))
    (mentioned_below (λ (a : MentionKind). is_begun a ≡ false) r.body (keyval_mentions name v)
    (mentions_keyval (λ (a : MentionKind). is_begun a ≡ false)
    (record { dot = refl; held = λ f. refl; unnamed = λ f. refl }) name v)) s)
content_begun p r before after' comment (header b k a) s =
    absurd (never p _ (all_join (λ (m : Mention). is_begun m.kind ≡ false) (header_prefixes r.tables [] (keys_of k))
    (record { path = header_path r.tables [] (keys_of k); kind = define } ∷ []) (plain_prefixes r.tables [] (keys_of k))
    (refl, tt)) s)
content_begun p r before after' comment (element b k a) s =
    let prefixes : List Mention = header_prefixes r.tables [] (keys_of k) in
    let at : List Part = header_path r.tables [] (keys_of k) in
    let n : ℕ = elements_of at r.tables in
    let top : Mention = record { path = at; kind = marks_of.element } in
    let m : Mention = record { path = at ++ index n ∷ []; kind = begun } in
    elim (some_cases (IsMentioned is_begun p) prefixes (top ∷ m ∷ []) s) [
      | inl w ↦ absurd (never p prefixes (plain_prefixes r.tables [] (keys_of k)) w)
      | inr h ↦ (elim h [
        | inl d ↦ (let z : is_begun marks_of.element ≡ true = d.1 in absurd cc)
        | inr g ↦ (elim g [
          | inl d ↦
              (let place : at ++ index n ∷ [] ≡ p = d.0 in (
                ap (same_path (at ++ index n ∷ [])) (sym place) ∙ same_path-refl (at ++ index n ∷ []),
                record {
                  first = key_value k.first;
                  more = map further_value k.more;
                  number = n;
                  place = place;
                  rest = m ∷ [];
                  is = sym (append_assoc prefixes (top ∷ []) (m ∷ []));
                },
              ))
          | inr end ↦ absurd end
        ])
      ])
    ]

pub some_begins : (p : List Part) (r : Reading) (ls : List Line) → SomeOf (IsMentioned is_begun p) (lines_mentions r ls)
    → IsSome (last_line (begins p) r ls)
some_begins p r [] s = absurd s
some_begins p r (l ∷ ls) s =
    elim (some_cases (IsMentioned is_begun p) (line_mentions r l) (lines_mentions (after_line r l) ls) s) [
      | inl h ↦ some_here (begins p) r l ls (content_begun p r l.before l.after l.comment l.content h).0
      | inr h ↦ some_later (begins p) r l ls (some_begins p (after_line r l) ls h)
    ]

-- An element begins at the path.
pub some_of_element : (s : Document) (path : List Part) → SomeOf (IsMentioned is_begun path) (mentions_in s)
    → IsSome (change s (remove path))
some_of_element s path there =
    let cleared = in_document s (in_lines (clear_line path) start s.ended s.last) in
    let without : Option (Changed Document) =
    elim (last_line (λ r l. is_own path r l.content) start (lines s)) [ None ↦ None | Some i ↦ without_lines s i 1 ] in
    let section : Option (Changed Document) =
    elim (last_line (begins path) start (lines s)) [
      | None ↦ None
      | Some i ↦
          without_lines s i (suc (body_length (drop (suc i) (lines s))))
    ] in
    some_second cleared (or_else without (or_else section (nested removal path s)))
    (some_second without (or_else section (nested removal path s))
    (some_first section (nested removal path s)
    (dropped s (λ i. suc (body_length (drop (suc i) (lines s)))) (last_line (begins path) start (lines s))
    (some_begins path start (lines s) there))))

-- ---- no value is there

-- said of the path itself, and not by a value
abbrev headed : MentionKind → Bool
headed a = solid a && not (exclusive a)

shared_headed : IsShared headed
shared_headed =
    record {
      firm = λ a h. (and_parts (solid a) (not (exclusive a)) h).0;
      many = λ a h e. by (exclusive a) e (and_parts (solid a) (not (exclusive a)) h).1;
    }
  where
    by : (b : Bool) → b ≡ true → not b ≡ true → ⊥
    by true e h = absurd cc
    by false e h = absurd cc

some_headed : (p : List Part) (ms : List Mention) → SomeOf (IsSolidAt p) ms → AllOf Open ms
    → SomeOf (IsMentioned headed p) ms
some_headed p [] s h = absurd s
some_headed p (m ∷ ms) (inl s) h = inl (s.path, both (solid m.kind) (exclusive m.kind) s.kind h.0)
  where
    both : (a b : Bool) → a ≡ true → b ≡ false → (a && not b) ≡ true
    both true false e k = refl
    both true true e k = absurd cc
    both false b e k = absurd cc
some_headed p (m ∷ ms) (inr s) h = inr (some_headed p ms s h.1)

-- each prefix of the element's path that ends in a key is spoken of by its header
line_headed : (p prefix : List Part) → EndsInKey prefix → Reaches prefix p → (r : Reading) (mentioned : List Mention)
    → IsBegunBy p r mentioned → SomeOf (IsMentioned headed prefix) mentioned
line_headed p prefix ends u r mentioned h =
    let path : List Part = header_path r.tables [] (h.first ∷ h.more) in
    let all : List Mention = header_all r.tables [] (h.first ∷ h.more) marks_of.element in
    let reach : Reaches prefix path = index_cases prefix path h.number ends (subst (Reaches prefix) (sym h.place) u) in
    let there : SomeOf (IsSolidAt prefix) all =
    elim ((header_closed r.tables prefix [] h.more h.first marks_of.element refl ends).path reach) [
      | inl s ↦ s
      | inr v ↦
          absurd (never_root prefix ends v)
    ] in
    let open_all : AllOf Open all =
    all_join Open (header_prefixes r.tables [] (h.first ∷ h.more))
    (record { path = path; kind = marks_of.element } ∷ []) (open_prefixes r.tables [] (h.first ∷ h.more)) (refl, tt) in
    subst (SomeOf (IsMentioned headed prefix)) (sym h.is)
    (some_left (IsMentioned headed prefix) all h.rest (some_headed prefix all there open_all))

lines_headed : (p prefix : List Part) → EndsInKey prefix → Reaches prefix p → (r : Reading) (ls : List Line)
    → SomeOf (IsMentioned is_begun p) (lines_mentions r ls) → SomeOf (IsMentioned headed prefix) (lines_mentions r ls)
lines_headed p prefix ends u r [] s = absurd s
lines_headed p prefix ends u r (l ∷ ls) s =
    elim (some_cases (IsMentioned is_begun p) (line_mentions r l) (lines_mentions (after_line r l) ls) s) [
      | inl h ↦
          some_left (IsMentioned headed prefix) (line_mentions r l) (lines_mentions (after_line r l) ls)
          (line_headed p prefix ends u r (line_mentions r l)
          (content_begun p r l.before l.after l.comment l.content h).1)
      | inr h ↦
          some_right (IsMentioned headed prefix) (line_mentions r l) (lines_mentions (after_line r l) ls)
          (lines_headed p prefix ends u (after_line r l) ls h)
    ]

-- Where an element begins, there is no value and no item.
pub begun_alone : (s : Document) (path : List Part) → Rules (mentions_in s)
    → SomeOf (IsMentioned is_begun path) (mentions_in s) → SomeOf (IsAloneAt path) (mentions_in s) → ⊥
begun_alone s path rules there alone =
    let (x, at, held) =
    meet (IsAloneAt path) (λ x. exclusive x.kind ≡ true → IsHeld (mentions_in s) x) (mentions_in s) alone
    (lines_held start (lines s)) in
    let h = held at.kind in
    no_both headed shared_headed h.prefix (mentions_in s)
    (lines_headed path h.prefix h.ends (subst (Reaches h.prefix) at.path h.under) start (lines s) there) h.alone rules
