-- Each card obeys the four orders of a round once, in order.
use Rattle.laws.proofs.LawsOrders.{orders}
use Rattle.laws.proofs.orders_once_in_order.Goals as goal

pub returns : goal.returns
returns g c = orders g.row.C.Denot
