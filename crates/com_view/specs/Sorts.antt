-- The sorts of lanes, in the words of the model.
use Rattle.com_model.specs.Tables.{LaneSort, Thread, Host, Pool, NoLane}
use Rattle.com_view.specs.declared.sorts.Sort.{Sort}
use Rattle.com_view.specs.declared.sorts.Sort.TheVariants as sort

abbrev pub sort_as : Sort → LaneSort
sort_as sort.Thread = Thread
sort_as sort.Host = Host
sort_as sort.Pool = Pool
sort_as sort.NoLane = NoLane
