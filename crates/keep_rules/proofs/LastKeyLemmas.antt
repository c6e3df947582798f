-- A header after the end of a document, whose leading keys were gone through: what its last key says.
--
-- What is said of the leading keys comes first, and leads to a path; the last key goes on from there.
--
-- Theorems: `define_known`: a header `[..]`; `begin_known`: a header `[[..]]`.
use Rattle.std.proofs.Common.{◌≡◌, ℕ, ◌+◌, List, [], ◌∷◌, ◌++◌, length, refl, sym, ap, ◌∙◌}
use Rattle.keep_types.specs.declared.node.Kind.TheVariants as kind
use Rattle.keep_types.specs.declared.node.NodeInfo.{NodeInfo}
use Rattle.keep_types.specs.declared.node.Origin.TheVariants as origin
use Rattle.keep_syntax.specs.Tree.{Document}
use Rattle.keep_path.specs.NodeInfos.{NodeInfos}
use Rattle.keep_path.specs.Path.{Part, key, index}
use Rattle.keep_meaning.specs.Counts.{Count, Numbered, count_after, count_with_mention, numbered_mentions}
use Rattle.keep_meaning.specs.Marks.{Mention, begun, define, element, element_header, elements_of, header}
use Rattle.keep_meaning.specs.Marks.{header_path, header_prefixes}
use Rattle.keep_meaning.specs.StatementsMore.{AreNumbersAtEnd, count_at_end, said_next}
use Rattle.keep_meaning.proofs.Shared.{numbered_mentions-append}
use Rattle.keep_index_store.specs.Facts.{named_info, unnamed_info}
use Rattle.keep_rules.specs.Descents.{descent_mentions, descent_path}
use Rattle.keep_rules.specs.HeaderJoins.{tables_at_end}
use Rattle.keep_rules.specs.MentionInfos.{mention_info, with_info, with_mentions}
use Rattle.keep_rules.proofs.KeyWalkInfoLemmas.{header_counts}
use Rattle.keep_rules.proofs.KeyWalkLemmas.{header_path-split, header_prefixes-split}
use Rattle.keep_rules.proofs.MentionInfoLemmas.{begun_info, define_info, element_info, with_mentions-append}

-- mentions after others
pub mentions_then : (t : NodeInfos) (c : Count) (ms ns : List Mention)
    → with_mentions (with_mentions t (numbered_mentions c ms)) (numbered_mentions (count_after c ms) ns)
    ≡ with_mentions t (numbered_mentions c (ms ++ ns))
mentions_then t c ms ns =
    sym (with_mentions-append t (numbered_mentions c ms) (numbered_mentions (count_after c ms) ns))
    ∙ ap (with_mentions t) (sym (numbered_mentions-append c ms ns))

-- A header went through these keys to a path, and this is what is known of the nodes with what it says of them.
pub record HasGone (d : Document) (t s : NodeInfos) (path : List Part) (keys : List (List ℕ)) : Type 0 where
  pub leads : path ≡ descent_path (tables_at_end d) [] keys
  pub said : s ≡ with_mentions t (numbered_mentions (count_at_end d) (descent_mentions (tables_at_end d) [] keys))

module _ (d : Document) (t s : NodeInfos) (path : List Part) (keys : List (List ℕ)) (gone : HasGone d t s path keys)
    (statement number : ℕ) (numbers : AreNumbersAtEnd d statement number) (text : List ℕ) (part : ℕ)
    (numbered : part ≡ number + length keys) where
  abbrev tables : List (List Part)
  tables = tables_at_end d

  abbrev said : List Mention
  said = descent_mentions tables [] keys

  abbrev count : Count
  count = count_after (count_at_end d) said

  key_counted : count.keys ≡ part
  key_counted =
      (header_counts tables [] keys (count_at_end d)).keys ∙ ap (λ (k : ℕ). k + length keys) numbers.keys ∙ sym numbered

  counted : count.statements ≡ statement
  counted = (header_counts tables [] keys (count_at_end d)).statements ∙ numbers.statements

  abbrev own : List Part
  own = path ++ key text ∷ []

  own_is : own ≡ descent_path tables [] keys ++ key text ∷ []
  own_is = ap (λ (p : List Part). p ++ key text ∷ []) gone.leads

  -- what is said of the last key comes after that
  then_said : (last : List Part → List Mention)
      → with_mentions s (numbered_mentions count (last own))
      ≡ with_mentions t (numbered_mentions (count_at_end d)
      (header_prefixes tables [] (keys ++ text ∷ []) ++ last (header_path tables [] (keys ++ text ∷ []))))
  then_said last =
      ap (λ (x : NodeInfos). with_mentions x (numbered_mentions count (last own))) gone.said
      ∙ mentions_then t (count_at_end d) said (last own)
      ∙ ap (λ (w : List Mention). with_mentions t (numbered_mentions (count_at_end d) (w ++ last own)))
      (sym (header_prefixes-split tables [] keys text))
      ∙ ap (λ (p : List Part).
      with_mentions t (numbered_mentions (count_at_end d) (header_prefixes tables [] (keys ++ text ∷ []) ++ last p)))
      (own_is ∙ sym (header_path-split tables [] keys text))

  pub define_known : with_info s own (named_info kind.Table part (origin.Header statement))
      ≡ with_mentions t (said_next d (header (keys ++ text ∷ [])))
  define_known =
      let n : Numbered = record { mention = record { path = own; kind = define }; before = count } in
      ap (λ (x : ℕ). with_info s own (named_info kind.Table part (origin.Header x))) (sym counted)
      ∙ ap (λ (i : NodeInfo). with_info s own i) (sym (define_info n part refl key_counted))
      ∙ then_said (λ p. record { path = p; kind = define } ∷ [])

  pub begin_known : (many : ℕ) → many ≡ elements_of own tables
      → with_info (with_info s own (named_info kind.Tables part origin.Tables)) (own ++ index many ∷ [])
      (unnamed_info kind.Table (origin.Element statement))
      ≡ with_mentions t (said_next d (element_header (keys ++ text ∷ [])))
  begin_known many elements =
      let m : Mention = record { path = own; kind = element } in
      let n : Numbered = record { mention = m; before = count } in
      let place : List Part = own ++ index (elements_of own tables) ∷ [] in
      let n' : Numbered = record {
        mention = record { path = place; kind = begun };
        before = count_with_mention count m;
      } in
      ap (λ (k : ℕ).
      with_info (with_info s own (named_info kind.Tables part origin.Tables)) (own ++ index k ∷ [])
      (unnamed_info kind.Table (origin.Element statement))) elements
      ∙ ap (λ (i : NodeInfo).
      with_info (with_info s own i) place (unnamed_info kind.Table (origin.Element statement)))
      (sym (element_info n part refl key_counted))
      ∙ ap (λ (x : ℕ). with_info (with_info s own (mention_info n)) place (unnamed_info kind.Table (origin.Element x)))
      (sym counted)
      ∙ ap (λ (i : NodeInfo). with_info (with_info s own (mention_info n)) place i) (sym (begun_info n' refl))
      ∙ then_said (λ p.
      record { path = p; kind = element } ∷ record { path = p ++ index (elements_of p tables) ∷ []; kind = begun } ∷ [])
