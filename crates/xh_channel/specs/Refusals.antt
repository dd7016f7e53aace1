-- The refusals of channels among those of the heap.
use Rattle.xh_core.specs.declared.refused.Refused.{Refused as Named}
use Rattle.xh_core.specs.declared.refused.Refused.TheVariants as named
use Rattle.xh_channel.specs.declared.refused.Refused.{Refused}
use Rattle.xh_channel.specs.declared.refused.Refused.TheVariants as refused
use Rattle.xh_channel.specs.declared.unopened.Unopened.{Unopened}
use Rattle.xh_channel.specs.declared.unopened.Unopened.TheVariants as unopened

abbrev pub same_refusal : Refused → Named
same_refusal refused.OutOfMemory = named.OutOfMemory
same_refusal refused.BadSize = named.BadSize
same_refusal (refused.PeerClosed back) = named.PeerClosed back
same_refusal refused.Empty = named.Empty

abbrev pub refusal_of : Unopened → Named
refusal_of (unopened.NoChannel _) = named.NoChannel
refusal_of (unopened.OutOfMemory _) = named.OutOfMemory
refusal_of (unopened.NoHandle _) = named.NoChannel
