-- A change inside a document, and one more at the same value right after it.
--
-- Two acts are done at the end of one path, the second in what the first made. `Follows` says of the two: both find no
-- value, or the second puts its text right after that of the first (`IsNext`). Two other outcomes of the first are
-- named too, which an insert of a last item excludes. If it holds at each value, then it holds in entries, lines and
-- documents, by induction: no act changes where the other goes.
--
-- Theorem: `nested_follows`.
use Rattle.std.proofs.Common.{◌≡◌, ℕ, ◌+◌, List, [], ◌∷◌, ◌++◌, refl, sym, ap, subst, ◌∙◌, append_assoc, Option, Some}
use Rattle.std.proofs.Common.{None, inl, inr}
use Rattle.std.specs.Prelude.{◌⊎◌, codes}
use Rattle.keep_syntax.specs.Tree.{name_leaves, named_leaves, opening, closing, comma_leaves, comment_leaves}
use Rattle.keep_syntax.specs.Tree.{Entries, none, entry, Value, Content, blank, keyval, header, element, Line, Ended}
use Rattle.keep_syntax.specs.Tree.{Document, ended_leaves, bom_leaves, text_of}
use Rattle.keep_path.specs.Path.{Part}
use Rattle.keep_meaning.specs.Marks.{Reading, start}
use Rattle.keep_meaning.specs.Meaning.{step, after_line}
use Rattle.keep_edit_spec.specs.Look.{strip}
use Rattle.keep_edit_spec.specs.Changed.{Changed, framed_change, within, or_else}
use Rattle.keep_edit_spec.specs.Values.{Act, entry_prefix, entry_back, in_entries, in_value}
use Rattle.keep_edit_spec.specs.Lines.{Page, page_text, page_of, with_page, in_content, in_line, in_lines}
use Rattle.keep_edit_spec.specs.Edits.{nested}
use Rattle.keep_edit_spec.proofs.Common.SetLaw.{no_entry}
use Rattle.keep_edit_spec.proofs.Common.DoneAtValue.{IsAtEnd}

-- the second change puts this text right after that of the first
pub record IsNext {A : Type 0} (new : List ℕ) (c : Changed A) (o : Option (Changed A)) : Type 0 where
  pub next : Changed A
  pub is : o ≡ Some next
  pub before : next.before ≡ c.before ++ c.new
  pub old : next.old ≡ []
  pub given : next.new ≡ new

-- The first change puts its text before an item, or the same text in the place of itself, or there is a next one.
abbrev pub Outcome : {A : Type 0} → List ℕ → List ℕ → Changed A → Option (Changed A) → Type 0
Outcome text new c o = (c.new ≡ text ++ codes ", ") ⊎ ((c.new ≡ c.old) ⊎ IsNext new c o)

-- the second, `f`, is of what the first makes of `x`
abbrev pub Follows : {A : Type 0} → List ℕ → List ℕ → Option (Changed A) → (A → Option (Changed A)) → A → Type 0
Follows text new None f x = f x ≡ None
Follows text new (Some c) f x = Outcome text new c (f c.to)

module _ (text new : List ℕ) where
  pub outcome_framed : {A B : Type 0} (outer : A → B) (left right : List ℕ) (c : Changed A) (o : Option (Changed A))
      (p : Option (Changed B)) → ((d : Changed A) → o ≡ Some d → p ≡ Some (framed_change outer left right d))
      → Outcome text new c o → Outcome text new (framed_change outer left right c) p
  outcome_framed outer left right c o p same (inl e) = inl e
  outcome_framed outer left right c o p same (inr (inl e)) = inr (inl e)
  outcome_framed outer left right c o p same (inr (inr n)) = inr (inr (record {
    next = framed_change outer left right n.next;
    is = same n.next n.is;
    before = ap (λ (l : List ℕ). left ++ l) n.before ∙ sym (append_assoc left c.before c.new);
    old = n.old;
    given = n.given;
  }))

  follows_within : {A B : Type 0} (outer : A → B) (left right : List ℕ) (o : Option (Changed A))
      (f : A → Option (Changed A)) (g : B → Option (Changed B)) (x : A)
      → ((y : A) → g (outer y) ≡ within outer left right (f y)) → Follows text new o f x
      → Follows text new (within outer left right o) g (outer x)
  follows_within outer left right None f g x same h = same x ∙ ap (within outer left right) h
  follows_within outer left right (Some c) f g x same h =
      outcome_framed outer left right c (f c.to) (g (outer c.to))
      (λ d e. same c.to ∙ ap (within outer left right) e) h

  follows_same : {A : Type 0} (o o' : Option (Changed A)) (f g : A → Option (Changed A)) (x : A) → o ≡ o'
      → ((y : A) → f y ≡ g y) → Follows text new o f x → Follows text new o' g x
  follows_same {A = A} o o' f g x e same h =
      subst (λ (q : Option (Changed A)). Follows text new q g x) e (by o h)
    where
      by : (q : Option (Changed A)) → Follows text new q f x → Follows text new q g x
      by None k = sym (same x) ∙ k
      by (Some c) k = subst (λ (p : Option (Changed A)). Outcome text new c p) (same c.to) k

  or_none : {A : Type 0} (o : Option A) → or_else o None ≡ o
  or_none None = refl
  or_none (Some x) = refl

  -- what an act that is done at the end of a path alone does in a value
  at_end : (act : Act) (v : Value) → in_value act [] v ≡ act [] v
  at_end act v =
      ap (λ (o : Option (Changed Entries)). or_else (within (λ es. record v { nested = es }) (text_of (opening v.body))
      (text_of (closing v.body)) o) (act [] v)) (no_entry act 0 v.nested)

  past_end : (act : Act) → IsAtEnd act → (p : Part) (ps : List Part) (v : Value)
      → in_value act (p ∷ ps) v ≡ within (λ es. record v { nested = es }) (text_of (opening v.body))
      (text_of (closing v.body)) (in_entries act (p ∷ ps) 0 v.nested)
  past_end act ends p ps v =
      ap (λ (o : Option (Changed Value)). or_else (within (λ es. record v { nested = es }) (text_of (opening v.body))
      (text_of (closing v.body)) (in_entries act (p ∷ ps) 0 v.nested)) o) (ends p ps v)
      ∙ or_none (within (λ es. record v { nested = es }) (text_of (opening v.body))
      (text_of (closing v.body)) (in_entries act (p ∷ ps) 0 v.nested))

  module _ (one two : Act) (ends : IsAtEnd one) (ends_two : IsAtEnd two)
      (here : (v : Value) → Follows text new (one [] v) (two []) v) where
    value_follows : (path : List Part) (v : Value)
        → Follows text new (in_entries one path 0 v.nested) (in_entries two path 0) v.nested
        → Follows text new (in_value one path v) (in_value two path) v
    value_follows [] v h =
        follows_same (one [] v) (in_value one [] v) (two []) (in_value two []) v (sym (at_end one v))
        (λ y. sym (at_end two y)) (here v)
    value_follows (p ∷ ps) v h =
        subst (λ (o : Option (Changed Value)). Follows text new o (in_value two (p ∷ ps)) v)
        (sym (past_end one ends p ps v))
        (follows_within (λ es. record v { nested = es }) (text_of (opening v.body)) (text_of (closing v.body))
        (in_entries one (p ∷ ps) 0 v.nested) (in_entries two (p ∷ ps) 0) (in_value two (p ∷ ps)) v.nested
        (λ y. past_end two ends_two p ps (record v { nested = y })) h)

    entries_follow : (path : List Part) (n : ℕ) (es : Entries)
        → Follows text new (in_entries one path n es) (in_entries two path n) es
    entries_follow path n none = refl
    entries_follow path n (entry name body nested after comma rest) =
        by (strip (step n name) path) refl (entries_follow path (n + 1) rest)
        (λ more. entries_follow more 0 nested)
      where
        by : (o : Option (List Part)) → strip (step n name) path ≡ o
            → Follows text new (in_entries one path (n + 1) rest) (in_entries two path (n + 1)) rest
            → ((more : List Part) → Follows text new (in_entries one more 0 nested) (in_entries two more 0) nested)
            → Follows {A = Entries} text new (elim o [
              | None ↦
                  within (entry name body nested after comma)
                  (entry_prefix name body nested ++ (text_of after ++ text_of (comma_leaves comma))) []
                  (in_entries one path (n + 1) rest)
              | Some more ↦
                  within (λ v. entry name v.body v.nested after comma rest) (text_of (named_leaves name))
                  (entry_back after comma rest) (in_value one more (record { body = body; nested = nested }))
            ]) (in_entries two path n) (entry name body nested after comma rest)
        by None e further inner =
            follows_within (entry name body nested after comma)
            (entry_prefix name body nested ++ (text_of after ++ text_of (comma_leaves comma))) []
            (in_entries one path (n + 1) rest) (in_entries two path (n + 1)) (in_entries two path n) rest
            (λ y. rw (in_entries, e) refl) further
        by (Some more) e further inner =
            follows_within (λ (v : Value). entry name v.body v.nested after comma rest) (text_of (named_leaves name))
            (entry_back after comma rest) (in_value one more (record { body = body; nested = nested }))
            (in_value two more) (in_entries two path n) (record { body = body; nested = nested })
            (λ y. rw (in_entries, e) refl)
            (value_follows more (record { body = body; nested = nested }) (inner more))

    content_follows : (body path : List Part) (c : Content)
        → Follows text new (in_content one body path c) (in_content two body path) c
    content_follows body path blank = refl
    content_follows body path (header before k after) = refl
    content_follows body path (element before k after) = refl
    content_follows body path (keyval name value) = by (strip (body ++ step 0 (Some name)) path) refl
      where
        by : (o : Option (List Part)) → strip (body ++ step 0 (Some name)) path ≡ o
            → Follows {A = Content} text new (elim o [
              | None ↦ None
              | Some more ↦ within (keyval name) (text_of (name_leaves name)) [] (in_value one more value)
            ]) (in_content two body path) (keyval name value)
        by None e = rw (in_content, e) refl
        by (Some more) e =
            follows_within (keyval name) (text_of (name_leaves name)) [] (in_value one more value)
            (in_value two more) (in_content two body path) value
            (λ y. rw (in_content, e) refl)
            (value_follows more value (entries_follow more 0 value.nested))

    line_follows : (path : List Part) (r : Reading) (l : Line)
        → Follows text new (in_line one path r l) (in_line two path r) l
    line_follows path r l =
        follows_within (λ c. record l { content = c }) (text_of l.before)
        (text_of l.after ++ text_of (comment_leaves l.comment)) (in_content one r.body path l.content)
        (in_content two r.body path) (in_line two path r) l.content (λ y. refl) (content_follows r.body path l.content)

    lines_follow : (path : List Part) (r : Reading) (es : List Ended) (last : Line)
        → Follows text new (in_lines (in_line one path) r es last)
        (λ (b : Page). in_lines (in_line two path) r b.ended b.last) (record { ended = es; last = last })
    lines_follow path r [] last =
        follows_within (λ (l : Line). record { ended = []; last = l }) [] [] (in_line one path r last)
        (in_line two path r) (λ (b : Page). in_lines (in_line two path) r b.ended b.last) last (λ y. refl)
        (line_follows path r last)
    lines_follow path r (e ∷ es) last =
        by (in_line one path r e.line) (line_follows path r e.line)
        (in_lines (in_line one path) (after_line r e.line) es last) (lines_follow path (after_line r e.line) es last)
      where
        here_lines : Line → Page
        here_lines l = record { ended = record { line = l; newline = e.newline } ∷ es; last = last }

        further_lines : Page → Page
        further_lines b = record { ended = e ∷ b.ended; last = b.last }

        right : List ℕ
        right = e.newline.text ++ page_text (record { ended = es; last = last })

        second : Page → Option (Changed Page)
        second b = in_lines (in_line two path) r b.ended b.last

        by : (o : Option (Changed Line)) → Follows text new o (in_line two path r) e.line → (p : Option (Changed Page))
            → Follows text new p (λ (b : Page). in_lines (in_line two path) (after_line r e.line) b.ended b.last)
            (record { ended = es; last = last })
            → Follows text new (or_else (within here_lines [] right o)
            (within further_lines (text_of (ended_leaves e)) [] p)) second (record { ended = e ∷ es; last = last })
        by (Some c) h p k =
            outcome_framed here_lines [] right c (in_line two path r c.to) (second (here_lines c.to))
            (λ d g. ap (λ (q : Option (Changed Line)). or_else (within here_lines [] right q)
            (within (λ b. record { ended = record { line = c.to; newline = e.newline } ∷ b.ended; last = b.last })
            (text_of (ended_leaves (record { line = c.to; newline = e.newline }))) []
            (in_lines (in_line two path) (after_line r c.to) es last))) g) h
        by None h p k =
            follows_within further_lines (text_of (ended_leaves e)) [] p
            (λ (b : Page). in_lines (in_line two path) (after_line r e.line) b.ended b.last) second
            (record { ended = es; last = last })
            (λ y. ap (λ (q : Option (Changed Line)). or_else
            (within (λ l. record { ended = record { line = l; newline = e.newline } ∷ y.ended; last = y.last }) []
            (e.newline.text ++ page_text (record { ended = y.ended; last = y.last })) q)
            (within further_lines (text_of (ended_leaves e)) []
            (in_lines (in_line two path) (after_line r e.line) y.ended y.last))) h) k

    -- in a document
    pub nested_follows : (path : List Part) (s : Document)
        → Follows text new (nested one path s) (nested two path) s
    nested_follows path s =
        follows_within (with_page s) (text_of (bom_leaves s.bom)) [] (in_lines (in_line one path) start s.ended s.last)
        (λ (b : Page). in_lines (in_line two path) start b.ended b.last) (nested two path) (page_of s) (λ y. refl)
        (lines_follow path start s.ended s.last)
