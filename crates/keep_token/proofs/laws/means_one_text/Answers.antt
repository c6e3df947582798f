use Rattle.keep_types.specs.declared.leaf.Profile.TheVariants.{Wide}
use Rattle.keep_token.proofs.StringMeans.{means_one}
use Rattle.keep_token.proofs.laws.means_one_text.Goals as goal

pub returns : goal.returns
returns c = λ leaf text one other kind h k. means_one Wide leaf text one other h k
