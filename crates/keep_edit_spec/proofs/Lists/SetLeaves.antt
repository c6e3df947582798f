-- What a set leaves of a document: what is said of paths that do not begin with its own, where bodies end, and the keys
-- of all lines.
--
-- A set replaces the run of mentions at and under its path (`document_set`), so of any other path the same is said. It
-- changes the value of one line alone (`one_line_set`), which is a keyval as before: so the lengths of bodies are the
-- same (`length_same`, `length_behind`, `end_same`), and so are the headers, which begin the same bodies and go through
-- the same paths (`last_same`). Through each path the same lines lead by their own keys (`led_same`).
--
-- Theorems: `set_kinds`, `set_ends`, `set_begins`, `set_through`, `set_bodies`, `set_led`.
use Rattle.std.proofs.Common.{◌≡◌, ℕ, zero, suc, ◌+◌, Bool, false, ◌&&◌, List, [], ◌∷◌, ◌++◌, drop, refl, sym, ap, ap₂}
use Rattle.std.proofs.Common.{subst, ◌∙◌, Option, Some, None}
use Rattle.keep_syntax.specs.Tree.{Name, Value, Content, keyval, Line, Document}
use Rattle.keep_path.specs.Path.{Part, same_path, strip}
use Rattle.keep_meaning.specs.Marks.{Mention, MentionKind, Reading, start}
use Rattle.keep_meaning.specs.Meaning.{after_line, body_fact, entries_mentions, line_mentions, lines, mentions_in}
use Rattle.keep_meaning.specs.Nodes.{has, is_through, kinds_at}
use Rattle.keep_edit_spec.specs.Changed.{Changed}
use Rattle.keep_edit_spec.specs.Edits.{change, end_of, set}
use Rattle.keep_edit_spec.specs.Lines.{begins, body_end, body_length, is_header, last_line, leads_dotted, leads_through}
use Rattle.keep_edit_spec.specs.Lines.{plain_line}
use Rattle.keep_edit_spec.proofs.Common.Runs.{AllOf, IsUnder, Rules, kinds_at-append, kinds_at-under}
use Rattle.keep_edit_spec.proofs.Common.SetDocument.{LinesSet, document_set, one_line_set, reading_of, under_run}
use Rattle.keep_edit_spec.proofs.Common.SetLaw.{EachTo, IsSet, run, tag_of}
use Rattle.keep_edit_spec.proofs.Lists.BodyEnds.{end_cons, end_in, end_or, length_after}
use Rattle.keep_edit_spec.proofs.Lists.LedAlike.{AreLedAlike, same_lines}
use Rattle.keep_edit_spec.proofs.Lists.RemovedOwn.{last_or}

-- ---- what is said of other paths

without_run : (p q : List Part) (before mid after : List Mention) → AllOf (IsUnder p) mid → strip p q ≡ None
    → kinds_at q (before ++ (mid ++ after)) ≡ kinds_at q before ++ kinds_at q after
without_run p q before mid after under clear =
    kinds_at-append q before (mid ++ after)
    ∙ ap (λ (l : List MentionKind). kinds_at q before ++ l)
    (kinds_at-append q mid after
    ∙ ap (λ (l : List MentionKind). l ++ kinds_at q after) (kinds_at-under p q mid under clear))

run_kinds : (path : List Part) (new : Value) (from to : List Mention) (q : List Part) → IsSet path new from to
    → strip path q ≡ None → kinds_at q to ≡ kinds_at q from
run_kinds path new from to q h clear =
    let old : List Mention = run path (tag_of h.name h.fact) (entries_mentions 0 h.entries) in
    let now : List Mention = run path (tag_of h.name (body_fact new.body)) (entries_mentions 0 new.nested) in
    ap (kinds_at q) h.is
    ∙ without_run path q h.before now h.after
    (under_run path (tag_of h.name (body_fact new.body)) (entries_mentions 0 new.nested)) clear
    ∙ sym (ap (kinds_at q) h.was
    ∙ without_run path q h.before old h.after (under_run path (tag_of h.name h.fact) (entries_mentions 0 h.entries))
    clear)

pub set_kinds : (s : Document) (path : List Part) (new : Value) (x : Changed Document) → Rules (mentions_in s)
    → change s (set path new) ≡ Some x → (q : List Part) → strip path q ≡ None
    → kinds_at q (mentions_in x.to) ≡ kinds_at q (mentions_in s)
set_kinds s path new x rules made q clear =
    run_kinds path new (mentions_in s) (mentions_in x.to) q
    (subst (λ (o : Option (Changed Document)). EachTo (λ t. IsSet path new (mentions_in s) (mentions_in t)) o) made
    (document_set s path new rules)) clear

-- ---- where bodies end

-- one line is a keyval of one name before and after
module _ (name : Name) (v w : Value) (old now : Line) (was : old.content ≡ keyval name v)
    (is : now.content ≡ keyval name w) where
  length_same : (pre post : List Line) → body_length (pre ++ old ∷ post) ≡ body_length (pre ++ now ∷ post)
  length_same [] post =
      ap (λ (c : Content). length_after c (body_length post)) was
      ∙ sym (ap (λ (c : Content). length_after c (body_length post)) is)
  length_same (x ∷ pre) post = ap (length_after x.content) (length_same pre post)

  end_same : (a : List Part) (r : Reading) (pre post : List Line)
      → end_in a r (pre ++ old ∷ post) ≡ end_in a r (pre ++ now ∷ post)
  end_same a r [] post =
      end_cons a r old post ∙ ap (from old) was ∙ sym (end_cons a r now post ∙ ap (from now) is)
    where
      from : Line → Content → Option ℕ
      from l c =
          let x : Line = record { before = l.before; content = c; after = l.after; comment = l.comment } in
          end_or (begins a r x) (body_length post) (end_in a (after_line r x) post)
  end_same a r (x ∷ pre) post =
      end_cons a r x (pre ++ old ∷ post)
      ∙ ap₂ (end_or (begins a r x)) (length_same pre post) (end_same a (after_line r x) pre post)
      ∙ sym (end_cons a r x (pre ++ now ∷ post))

  ends_same : (s to : Document) (a : List Part) (pre post : List Line) → lines s ≡ pre ++ old ∷ post
      → lines to ≡ pre ++ now ∷ post → end_of to a ≡ end_of s a
  ends_same s to [] pre post e f =
      ap (λ (n : ℕ). Some n) (ap body_length f ∙ sym (length_same pre post) ∙ sym (ap body_length e))
  ends_same s to (p ∷ ps) pre post e f =
      ap (end_in (p ∷ ps) start) f ∙ sym (end_same (p ∷ ps) start pre post) ∙ sym (ap (end_in (p ∷ ps) start) e)

  length_behind : (i : ℕ) (pre post : List Line)
      → body_length (drop i (pre ++ old ∷ post)) ≡ body_length (drop i (pre ++ now ∷ post))
  length_behind zero [] post = length_same [] post
  length_behind zero (x ∷ pre) post = length_same (x ∷ pre) post
  length_behind (suc i) [] post = refl
  length_behind (suc i) (x ∷ pre) post = length_behind i pre post

  -- the last line that passes a test which no keyval does
  last_same : (test : Reading → Line → Bool)
      → ((r : Reading) (l : Line) (v : Value) → l.content ≡ keyval name v → test r l ≡ false)
      → (r : Reading) (pre post : List Line)
      → last_line test r (pre ++ old ∷ post) ≡ last_line test r (pre ++ now ∷ post)
  last_same test none r [] post =
      ap₂ last_or (none r old v was ∙ sym (none r now w is))
      (ap (λ (x : Reading). last_line test x post) (reading_of r old name v was ∙ sym (reading_of r now name w is)))
  last_same test none r (x ∷ pre) post = ap (last_or (test r x)) (last_same test none (after_line r x) pre post)

  led_same : (a : List Part) (r : Reading) (pre post : List Line)
      → AreLedAlike a r r (pre ++ old ∷ post) (pre ++ now ∷ post)
  led_same a r [] post = (
    record { leads = ap leads is ∙ sym (ap leads was); body = λ e. refl },
    subst (λ (x : Reading). AreLedAlike a (after_line r old) x post post) (ap after was ∙ sym (ap after is))
        (same_lines a (after_line r old) post),
  )
    where
      leads : Content → Bool
      leads c = leads_dotted a r (plain_line c)

      after : Content → Reading
      after c = after_line r (plain_line c)
  led_same a r (x ∷ pre) post =
      (record { leads = refl; body = λ e. refl }, led_same a (after_line r x) pre post)

module _ (s : Document) (path : List Part) (new : Value) (x : Changed Document)
    (made : change s (set path new) ≡ Some x) where
  one_line : LinesSet start path new (lines s) (lines x.to)
  one_line =
      subst (λ (o : Option (Changed Document)). EachTo (λ t. LinesSet start path new (lines s) (lines t)) o) made
      (one_line_set s path new)

  pub set_ends : (a : List Part) → end_of x.to a ≡ end_of s a
  set_ends a =
      let h : LinesSet start path new (lines s) (lines x.to) = one_line in
      ends_same h.content.name h.content.old h.content.now h.old h.now h.content.was h.content.is s x.to a h.pre h.post
      h.was h.is

  last_is : (test : Reading → Line → Bool)
      → ((r : Reading) (l : Line) (name : Name) (v : Value) → l.content ≡ keyval name v → test r l ≡ false)
      → last_line test start (lines x.to) ≡ last_line test start (lines s)
  last_is test none =
      let h : LinesSet start path new (lines s) (lines x.to) = one_line in
      ap (last_line test start) h.is
      ∙ sym (last_same h.content.name h.content.old h.content.now h.old h.now h.content.was h.content.is test
      (λ r l v e. none r l h.content.name v e) start h.pre h.post)
      ∙ sym (ap (last_line test start) h.was)

  -- the last line that begins a body
  pub set_begins : (a : List Part) → last_line (begins a) start (lines x.to) ≡ last_line (begins a) start (lines s)
  set_begins a =
      last_is (begins a)
      (λ r l name v e. ap (λ (c : Content). is_header c && same_path (after_line r l).body a) e)

  -- the last header that goes through the path
  pub set_through : (a : List Part)
      → last_line (leads_through a) start (lines x.to) ≡ last_line (leads_through a) start (lines s)
  set_through a =
      last_is (leads_through a)
      (λ r l name v e. ap (λ (c : Content). is_header c && has is_through a (line_mentions r l)) e)

  -- the body of each header, by its number
  pub set_bodies : (i : ℕ) → body_end i (lines x.to) ≡ body_end i (lines s)
  set_bodies i =
      let h : LinesSet start path new (lines s) (lines x.to) = one_line in
      ap (λ (n : ℕ). suc i + n)
      (ap (λ (ls : List Line). body_length (drop (suc i) ls)) h.is
      ∙ sym (length_behind h.content.name h.content.old h.content.now h.old h.now h.content.was h.content.is (suc i)
      h.pre h.post)
      ∙ sym (ap (λ (ls : List Line). body_length (drop (suc i) ls)) h.was))

  -- which lines lead through the path, and from which bodies
  pub set_led : (a : List Part) → AreLedAlike a start start (lines s) (lines x.to)
  set_led a =
      let h : LinesSet start path new (lines s) (lines x.to) = one_line in
      let led : AreLedAlike a start start (h.pre ++ h.old ∷ h.post) (h.pre ++ h.now ∷ h.post) =
      led_same h.content.name h.content.old h.content.now h.old h.now h.content.was h.content.is a start h.pre h.post in
      subst (λ (ls : List Line). AreLedAlike a start start (lines s) ls) (sym h.is)
      (subst (λ (ls : List Line). AreLedAlike a start start ls (h.pre ++ h.now ∷ h.post)) (sym h.was) led)
