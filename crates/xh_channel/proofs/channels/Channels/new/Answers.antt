use Rattle.xh_channel.proofs.channels.Channels.new.Goals as goal

pub all_free-requires : goal.all_free-requires
all_free-requires c = let made = c.in_ok-pairs.ensures in (made.0, made.1, (c.args.depth, made.2))
