use Rattle.std.proofs.Common.{◌≡◌, ◌+◌, length, refl, ap, ◌∙◌, arith}
use Rattle.linked_table.specs.RingWalks.{link_at}
use Rattle.linked_table.specs.working.SoundTable.{bucket_number}
use Rattle.linked_table.proofs.Nodes.{below, pair_then, recent_read, set_pair, same_length, moved_length, moved_below, chains_count, length-columns}
use Rattle.linked_table.proofs.Slots.{full_seen, not_full, spare, spare_inside, spare_before_inside, spare_after_inside, used_last_inside, chain_last_inside, fresh_seen, below_max, empty_read, insert_sound_read, insert_seen_read}
use Rattle.linked_table.proofs.table.LinkedTable.insert_hashed.Goals as goal

pub returns-then-self-clause-full : goal.returns-then-self-clause-full
returns-then-self-clause-full g c = ((λ t. full_seen _ _ _ _ _ c.self.invariant _ c.self.view_is c.if-self.true), (λ e. refl))

pub index-requires : goal.index-requires
index-requires g c = omega (arith, below c.self.inside.nodes.items _ c.self.invariant.free_ring.hub_in)

pub move_last-requires-clause-inside : goal.move_last-requires-clause-inside
move_last-requires-clause-inside g c = below _ _ (spare_inside _ _ _ _ _ c.self.invariant _ (spare _ _ _ _ _ c.self.invariant _ (ap (λ (l : _). l.before) (recent_read c.self.inside.nodes.items _ _ c.index.ensures c.self.invariant.free_ring.hub_in)) c.if-self.false))

pub move_last-requires-clause-before_inside : goal.move_last-requires-clause-before_inside
move_last-requires-clause-before_inside g c = below _ _ (spare_before_inside _ _ _ _ _ c.self.invariant _ (spare _ _ _ _ _ c.self.invariant _ (ap (λ (l : _). l.before) (recent_read c.self.inside.nodes.items _ _ c.index.ensures c.self.invariant.free_ring.hub_in)) c.if-self.false))

pub move_last-requires-clause-after_inside : goal.move_last-requires-clause-after_inside
move_last-requires-clause-after_inside g c = below _ _ (spare_after_inside _ _ _ _ _ c.self.invariant _ (spare _ _ _ _ _ c.self.invariant _ (ap (λ (l : _). l.before) (recent_read c.self.inside.nodes.items _ _ c.index.ensures c.self.invariant.free_ring.hub_in)) c.if-self.false))

pub move_last-requires-clause-hub_inside : goal.move_last-requires-clause-hub_inside
move_last-requires-clause-hub_inside g c = below _ _ c.self.invariant.used_ring.hub_in

pub move_last-requires-clause-last_inside : goal.move_last-requires-clause-last_inside
move_last-requires-clause-last_inside g c = below _ _ (used_last_inside _ _ _ _ _ c.self.invariant _ (spare _ _ _ _ _ c.self.invariant _ (ap (λ (l : _). l.before) (recent_read c.self.inside.nodes.items _ _ c.index.ensures c.self.invariant.free_ring.hub_in)) c.if-self.false))

pub link_chain-requires-clause-inside : goal.link_chain-requires-clause-inside
link_chain-requires-clause-inside g c = omega (arith, below c.self.inside.nodes.items _ (spare_inside _ _ _ _ _ c.self.invariant _ (spare _ _ _ _ _ c.self.invariant _ (ap (λ (l : _). l.before) (recent_read c.self.inside.nodes.items _ _ c.index.ensures c.self.invariant.free_ring.hub_in)) c.if-self.false)), moved_length c.self.inside.nodes.items _ c.self.inside.hubs.items _ c.move_last.ensures)

pub link_chain-requires-clause-few : goal.link_chain-requires-clause-few
link_chain-requires-clause-few g c = omega (arith, moved_length c.self.inside.nodes.items _ c.self.inside.hubs.items _ c.move_last.ensures, length-columns c.self.inside.nodes.items, c.self.invariant.pair_nodes, c.self.invariant.hub_count, c.self.invariant.room)

pub link_chain-requires-clause-last_inside : goal.link_chain-requires-clause-last_inside
link_chain-requires-clause-last_inside g c =
    let count : c.len.result ≡ length c.self.invariant.buckets = omega (arith, c.self.invariant.hub_count) in
    let bucket = c.bucket_of-bucket.ensures.number ∙ ap (bucket_number (g.K.Key.hash_of c.args.hashed.now.key c.self.inside.seed)) count in
    let hub : length c.move_last.new.nodes.items + c.bucket_of-bucket.result ≡ c.self.inside.max + 2 + bucket_number (g.K.Key.hash_of c.args.hashed.now.key c.self.inside.seed) (length c.self.invariant.buckets) = omega (arith, bucket, moved_length c.self.inside.nodes.items _ c.self.inside.hubs.items _ c.move_last.ensures, length-columns c.self.inside.nodes.items, c.self.invariant.pair_nodes) in
    rw hub (moved_below _ _ _ _ c.move_last.ensures (λ l. (link_at l (c.self.inside.max + 2 + bucket_number (g.K.Key.hash_of c.args.hashed.now.key c.self.inside.seed) (length c.self.invariant.buckets))).before) (chain_last_inside _ _ _ _ _ c.self.invariant _ (spare _ _ _ _ _ c.self.invariant _ (ap (λ (l : _). l.before) (recent_read c.self.inside.nodes.items _ _ c.index.ensures c.self.invariant.free_ring.hub_in)) c.if-self.false) c.args.hashed.now.key c.args.value))

pub index_mut-requires : goal.index_mut-requires
index_mut-requires g c = omega (arith, below c.self.inside.nodes.items _ (spare_inside _ _ _ _ _ c.self.invariant _ (spare _ _ _ _ _ c.self.invariant _ (ap (λ (l : _). l.before) (recent_read c.self.inside.nodes.items _ _ c.index.ensures c.self.invariant.free_ring.hub_in)) c.if-self.false)), moved_length c.self.inside.nodes.items _ c.self.inside.hubs.items _ c.move_last.ensures, same_length _ _ _ c.link_chain.ensures.kept)

pub fill-requires : goal.fill-requires
fill-requires g c = empty_read _ _ _ _ _ c.self.invariant _ (spare _ _ _ _ _ c.self.invariant _ (ap (λ (l : _). l.before) (recent_read c.self.inside.nodes.items _ _ c.index.ensures c.self.invariant.free_ring.hub_in)) c.if-self.false) _ (pair_then c.self.inside.nodes.items _ c.self.inside.hubs.items _ c.move_last.ensures _ _ c.link_chain.ensures.kept _ _ c.index_mut.ensures.value)

pub invariant_of-self : goal.invariant_of-self
invariant_of-self g c =
    let count : c.len.result ≡ length c.self.invariant.buckets = omega (arith, c.self.invariant.hub_count) in
    let bucket = c.bucket_of-bucket.ensures.number ∙ ap (bucket_number (g.K.Key.hash_of c.args.hashed.now.key c.self.inside.seed)) count in
    let hub : length c.move_last.new.nodes.items + c.bucket_of-bucket.result ≡ c.self.inside.max + 2 + bucket_number (g.K.Key.hash_of c.args.hashed.now.key c.self.inside.seed) (length c.self.invariant.buckets) = omega (arith, bucket, moved_length c.self.inside.nodes.items _ c.self.inside.hubs.items _ c.move_last.ensures, length-columns c.self.inside.nodes.items, c.self.invariant.pair_nodes) in
    insert_sound_read _ _ _ _ _ c.self.invariant _ (spare _ _ _ _ _ c.self.invariant _ (ap (λ (l : _). l.before) (recent_read c.self.inside.nodes.items _ _ c.index.ensures c.self.invariant.free_ring.hub_in)) c.if-self.false) _ _ _ c.move_last.ensures _ c.link_chain.ensures.kept _ c.fill.ensures _ (set_pair c.link_chain.new.nodes.items _ _ c.index_mut.ensures.value _) _ c.self.view_is c.requires _ hub c.link_chain.new.hubs.items c.link_chain.ensures.links_are (chains_count c.self.inside.nodes.items _ c.self.inside.hubs.items _ c.move_last.ensures _ _ c.link_chain.ensures.kept) c.link_chain.ensures.number

pub returns-clause-full : goal.returns-clause-full
returns-clause-full g c = ((λ t. absurd cc), (λ e. absurd (not_full _ _ _ _ _ c.self.invariant _ c.self.view_is c.if-self.false e)))

pub returns-clause-below : goal.returns-clause-below
returns-clause-below g c = below_max _ _ _ _ _ c.self.invariant _ (spare _ _ _ _ _ c.self.invariant _ (ap (λ (l : _). l.before) (recent_read c.self.inside.nodes.items _ _ c.index.ensures c.self.invariant.free_ring.hub_in)) c.if-self.false) _ c.self.view_is

pub returns-clause-fresh : goal.returns-clause-fresh
returns-clause-fresh g c = fresh_seen _ _ _ _ _ c.self.invariant _ (spare _ _ _ _ _ c.self.invariant _ (ap (λ (l : _). l.before) (recent_read c.self.inside.nodes.items _ _ c.index.ensures c.self.invariant.free_ring.hub_in)) c.if-self.false) _ c.self.view_is

pub returns-clause-added : goal.returns-clause-added
returns-clause-added g c =
    insert_seen_read _ _ _ _ _ c.self.invariant _ (spare _ _ _ _ _ c.self.invariant _ (ap (λ (l : _). l.before) (recent_read c.self.inside.nodes.items _ _ c.index.ensures c.self.invariant.free_ring.hub_in)) c.if-self.false) _ _ _ c.move_last.ensures _ c.link_chain.ensures.kept _ c.fill.ensures _ (set_pair _ _ _ c.index_mut.ensures.value _) _ c.self.view_is
