-- One item more after all others of an array.
--
-- Theorem: `item_is_added`.
use Rattle.keep_edit_spec.specs.AddedItems.{ItemIsAdded}
use Rattle.keep_edit_spec.proofs.Lists.MoreItems.{array_stays, item_allowed, one_more_item, others_stay}
use Rattle.keep_edit_spec.proofs.Lists.NextItem.{next_placed}

pub item_is_added : ItemIsAdded
item_is_added profile limit s array n at value fine items can =
    let allowed = item_allowed profile limit s array n at value items can in
    let still = array_stays profile limit s array n at value fine items can in
    record {
      allowed = allowed;
      more = record {
        utf8 = items.utf8;
        array_is = still;
        counted = one_more_item profile limit s array n at value fine items can;
        next = next_placed profile limit s array n at value fine items can allowed still;
      };
      others = others_stay profile limit s array n at value fine items can;
    }
