-- A node has no lower number than any value at its path, nor than any keyval that continues from it.
--
-- Its origin is that of the last value, if there is one (`value_reaches`). If a keyval continues from it, the rules
-- let no key part say of it that it is a value, a table of a header or an array of tables; and as its path ends in a
-- key, it is no item and no element. So its origin is that of the last keyval that continues from it (`dots_reach`).
--
-- Theorems: these two; `fits`: each path of a document fits what is said of it.
use Rattle.std.proofs.Common.{◌≡◌, ℕ, ◌≤◌, Bool, true, false, List, [], ◌∷◌, map, refl, sym, ap, subst, ◌∙◌, inl, inr}
use Rattle.std.proofs.Common.{Option, Some, None}
use Rattle.keep_types.specs.declared.role.Role.{Role}
use Rattle.keep_types.specs.declared.role.Role.TheVariants as role
use Rattle.keep_syntax.specs.Tree.{Document}
use Rattle.keep_path.specs.NodesBelow.{value_of}
use Rattle.keep_path.specs.Path.{Part}
use Rattle.keep_meaning.specs.Counts.{Count, Numbered, is_mark, is_value, no_count, numbered_in, statements_in}
use Rattle.keep_meaning.specs.Marks.{MentionKind, define, element, dotted, value, begun, item, Mention, marks}
use Rattle.keep_meaning.specs.Marks.{reading_after, role_of, start}
use Rattle.keep_meaning.specs.Meaning.{mentions_in}
use Rattle.keep_meaning.specs.Nodes.{is_begun, is_define, is_dotted, is_element, is_through, last_number, mention_of}
use Rattle.keep_meaning.specs.Nodes.{node_at, node_info, numbered_at, statement_number, value_number}
use Rattle.keep_meaning.specs.Rules.{ObeysRules, allows}
use Rattle.keep_meaning.proofs.BodyLaws.{apart}
use Rattle.keep_meaning.proofs.CountLemmas.{mentions-numbered_from, mentions-numbered_in}
use Rattle.keep_meaning.proofs.DotNumberLemmas.{HasNumber, IsOf, SaidAt, ascends_in, last_greatest, last_said}
use Rattle.keep_meaning.proofs.DotNumberLemmas.{last_there, number_of_dotted, number_of_value}
use Rattle.keep_meaning.proofs.ElementLemmas.{IsSound, sound_from, sound_statements}
use Rattle.keep_meaning.proofs.LineNumberLemmas.{AllOf}
use Rattle.keep_meaning.proofs.NamedLemmas.{Fits, Says, SomeOf, ends}

-- ---- one of a list

pub some_of : {A : Type 0} (P Q : A → Type 0) → ((x : A) → P x → Q x) → (xs : List A) → SomeOf P xs → SomeOf Q xs
some_of P Q f [] h = h
some_of P Q f (x ∷ xs) (inl h) = inl (f x h)
some_of P Q f (x ∷ xs) (inr h) = inr (some_of P Q f xs h)

unmapped : {A B : Type 0} (P : B → Type 0) (f : A → B) (xs : List A) → AllOf P (map f xs)
    → AllOf (λ (x : A). P (f x)) xs
unmapped P f [] h = tt
unmapped P f (x ∷ xs) h = (h.0, unmapped P f xs h.1)

-- ---- kinds that a key part says

dotted_role : (k : MentionKind) → is_dotted k ≡ true → is_mark k ≡ true → role_of k ≡ Some role.Dotted
dotted_role dotted h m = refl
dotted_role other h m = absurd cc

value_role : (k : MentionKind) → is_value k ≡ true → is_mark k ≡ true → role_of k ≡ Some role.Value
value_role (value f) h m = refl
value_role (item f) h m = absurd cc
value_role other h m = absurd cc

element_role : (k : MentionKind) → is_element k ≡ true → is_mark k ≡ true → role_of k ≡ Some role.Element
element_role element h m = refl
element_role other h m = absurd cc

define_role : (k : MentionKind) → is_define k ≡ true → is_mark k ≡ true → role_of k ≡ Some role.Define
define_role define h m = refl
define_role other h m = absurd cc

begun_role : (k : MentionKind) → is_begun k ≡ true → is_mark k ≡ true → role_of k ≡ Some role.Define
begun_role begun h m = absurd cc
begun_role other h m = absurd cc

-- at a path that ends in a key, a key part says it
says : (of : MentionKind → Bool) (r : Role)
    → ((k : MentionKind) → of k ≡ true → is_mark k ≡ true → role_of k ≡ Some r) → (q : List Part) → ends q ≡ Some true
    → (ns : List Numbered) → AllOf (λ (n : Numbered). Fits n.mention) ns → SomeOf (SaidAt (IsOf of) q) ns
    → SomeOf (Says r q) (map mention_of ns)
says of r by q e [] f h = absurd h
says of r by q e (n ∷ ns) f (inl h) =
    let fits : Some true ≡ Some (is_mark n.mention.kind) = sym e ∙ ap ends (sym h.1) ∙ f.0 in
    let mark : is_mark n.mention.kind ≡ true = cc in
    inl (by n.mention.kind h.0 mark, h.1)
says of r by q e (n ∷ ns) f (inr h) = inr (says of r by q e ns f.1 h)

-- ---- a document

module _ (d : Document) where
  abbrev ns : List Numbered
  ns = numbered_in d

  pub fits : AllOf (λ (n : Numbered). Fits n.mention) ns
  fits =
      let sound : IsSound start (reading_after start (statements_in d)) (map mention_of ns) =
      subst (IsSound start (reading_after start (statements_in d)))
      (sym (mentions-numbered_from no_count start (statements_in d)))
      (sound_from start (statements_in d) (sound_statements d)) in
      unmapped Fits mention_of ns sound.fits

  -- the numbers of a kind at a path
  abbrev pub number_at : (MentionKind → Bool) → (Count → ℕ) → List Part → Option ℕ
  number_at of number q = last_number of number (numbered_at q ns)

  counted : (of : MentionKind → Bool) (w : ℕ) (q : List Part) → SomeOf (SaidAt (HasNumber of value_number w) q) ns
      → SomeOf (SaidAt (IsOf of) q) ns
  counted of w q h =
      some_of (SaidAt (HasNumber of value_number w) q) (SaidAt (IsOf of) q) (λ n s. (s.0.0, s.1)) ns h

  -- a node of this value has no lower number
  pub value_reaches : (w : ℕ) (q : List Part) → SomeOf (SaidAt (HasNumber is_value value_number w) q) ns
      → w ≤ value_of (node_info (node_at ns q))
  value_reaches w q h =
      number_of_value w (number_at is_value value_number q) (number_at is_element statement_number q)
      (number_at is_begun statement_number q) (number_at is_define statement_number q)
      (number_at is_dotted value_number q) (number_at is_through statement_number q)
      (last_there is_value value_number q ns (counted is_value w q h))
      (λ v e. last_greatest is_value q ns w v (ascends_in d) h e)

  -- nor has one from which this keyval continues
  module _ (obeys : ObeysRules (marks (mentions_in d))) (w : ℕ) (q : List Part) (key_last : ends q ≡ Some true)
      (by_dots : SomeOf (SaidAt (HasNumber is_dotted value_number w) q) ns) where
    none : (of : MentionKind → Bool) (number : Count → ℕ) (r : Role)
        → ((k : MentionKind) → of k ≡ true → is_mark k ≡ true → role_of k ≡ Some r)
        → allows r role.Dotted ≡ false → allows role.Dotted r ≡ false → (r ≡ role.Dotted → ⊥)
        → number_at of number q ≡ None
    none of number r has_role refused turned differ = by (number_at of number q) refl
      where
        never : SomeOf (SaidAt (IsOf of) q) ns → ⊥
        never h =
            apart q (map mention_of ns) r role.Dotted refused turned differ
            (subst (λ (ms : List Mention). ObeysRules (marks ms)) (sym (mentions-numbered_in d)) obeys)
            (says of r has_role q key_last ns fits h)
            (says is_dotted role.Dotted dotted_role q key_last ns fits (counted is_dotted w q by_dots))

        by : (o : Option ℕ) → number_at of number q ≡ o → o ≡ None
        by None e = refl
        by (Some x) e =
            absurd (never (some_of (SaidAt (HasNumber of number x) q) (SaidAt (IsOf of) q) (λ n s. (s.0.0, s.1)) ns
            (last_said of number q ns x e)))

    pub dots_reach : w ≤ value_of (node_info (node_at ns q))
    dots_reach =
        number_of_dotted w (number_at is_value value_number q) (number_at is_element statement_number q)
        (number_at is_begun statement_number q) (number_at is_define statement_number q)
        (number_at is_dotted value_number q) (number_at is_through statement_number q)
        (none is_value value_number role.Value value_role refl refl (λ e. cc))
        (none is_element statement_number role.Element element_role refl refl (λ e. cc))
        (none is_begun statement_number role.Define begun_role refl refl (λ e. cc))
        (none is_define statement_number role.Define define_role refl refl (λ e. cc))
        (last_there is_dotted value_number q ns (counted is_dotted w q by_dots))
        (λ v e. last_greatest is_dotted q ns w v (ascends_in d) by_dots e)
