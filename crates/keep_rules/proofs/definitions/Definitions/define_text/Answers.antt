-- A key that has no node gets one, and any other is defined once more.
use Rattle.std.proofs.Common.{◌≡◌, List, ◌∷◌, ◌++◌, [], length, refl, subst, sym, Some}
use Rattle.std.proofs.lemmas.Result.{err_from_is_err_and}
use Rattle.keep_path.specs.Path.{Part, key}
use Rattle.keep_index_store.specs.Children.{holding}
use Rattle.keep_index_store.specs.Facts.{info_of}
use Rattle.keep_index_store.specs.Tree.{TrieInfos}
use Rattle.keep_index_store.specs.Trie.{path_at}
use Rattle.keep_rules.specs.Outcomes.{DefinesOrRefuses}
use Rattle.keep_rules.specs.Tables.{IsShaped}
use Rattle.keep_rules.proofs.MarkLemmas.{marked_new}
use Rattle.keep_rules.proofs.AddedInfoLemmas.{added_at_new}
use Rattle.keep_rules.proofs.OutcomeLemmas.{on_either}
use Rattle.keep_rules.proofs.definitions.Definitions.define_text.Goals as goal

pub invariant_of-self : goal.invariant_of-self
invariant_of-self c =
    let old = c.args.self.now in
    let new = c.add_key.new.self in
    record {
      shaped = on_either c.add_key.result _ _ _
          (λ grows.
          (marked_new old.tree.trie new.trie c.args.parent c.args.text.now c.args.role (holding c.args.holds)
          (length old.tree.trie) grows old.shaped c.requires.table.keyed c.requires.fits refl).shaped)
          (λ (is : new ≡ old.tree). subst (λ (t : TrieInfos). IsShaped t.trie) (sym is) old.shaped)
          c.add_key.ensures.grows c.add_key.ensures.refused;
    }

pub returns-in_err-add_key-in-None : goal.returns-in_err-add_key-in-None
returns-in_err-add_key-in-None c =
    let p = err_from_is_err_and c.from_residual.result c.from_residual.ensures.1 in
    rw (p.1, p.2) (record { ok = tt; refused = tt; unchanged = c.in_err-add_key-in-None.ensures.refused })

pub returns-in_ok-add_key-in-None : goal.returns-in_ok-add_key-in-None
returns-in_ok-add_key-in-None c =
    let old = c.args.self.now in
    let new = c.add_key.new.self in
    record {
      ok = record {
        node = marked_new old.tree.trie new.trie c.args.parent c.args.text.now c.args.role (holding c.args.holds) _
            c.in_ok-add_key-in-None.ensures.grows old.shaped c.requires.table.keyed c.requires.fits
            (c.in_ok-add_key-in-None.ensures.last);
        facts = added_at_new old.tree new c.args.parent
            (path_at old.tree.trie c.args.parent ++ key c.args.text.now ∷ []) (Some c.args.role) (holding c.args.holds)
            (info_of c.args.facts)
            c.in_ok-add_key-in-None.ensures.grows c.in_ok-add_key-in-None.ensures.infos;
      };
      refused = tt;
      unchanged = tt;
    }

pub define_again-requires : goal.define_again-requires
define_again-requires c =
    record {
      within = c.in-Some.ensures.0;
      named = (path_at c.args.self.now.tree.trie c.args.parent, c.args.text.now, c.in-Some.ensures.1);
    }

pub returns-in-Some : goal.returns-in-Some
returns-in-Some c =
    let holds = holding c.args.holds in
    subst (λ (p : List Part).
    DefinesOrRefuses c.args.self.now.tree c.define_again.new.self.tree p c.args.role holds (info_of c.args.facts)
    c.args.facts.key c.define_again.result) c.in-Some.ensures.1 (c.define_again.ensures holds)
