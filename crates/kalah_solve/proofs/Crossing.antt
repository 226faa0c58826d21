-- What of this crate may cross threads, if memory is the heap's.
use denote.Struct.Owning as owning
use Rattle.std.specs.contracts.alloc.Global as Heap
use Rattle.std.specs.declared.clone.Clone as clone
use Rattle.std.proofs.MapsCrossing as maps
use Rattle.atomic_table.specs.contracts.shared.Shared as Shared
use Rattle.atomic_table.specs.declared.shared.TableRule as rule
use Rattle.atomic_table.specs.contracts.send_lease.SendLease as Lease
use Rattle.kalah_solve.specs.contracts.table.ending_table.EndingTable as EndingTable
use Rattle.kalah_solve.specs.contracts.solver.Solver as Solver
use denote.RattleType.{RattleType}
use denote.Param.Send.{IsSend, IsSync, Frees, part_keyless, sendable}
use denote.Struct.Struct.{Struct}
use Rattle.std.{specs.declared.alloc.Allocator.{Ghosts}, proofs.Crossing.{crosses, frees}}
use Rattle.atomic_table.proofs.{Rights.{right_send}, Sent.{owns_keyless, shares_keyless}}
use Rattle.lru.proofs.Crosses.{KeyRef-send, List-send, Deed-send}

-- how an allocator's blocks are owned, if they may be freed anywhere
abbrev pub owned : {D : Type 0} {g : Ghosts D} → Frees g g.dealloc_token → Ghosts D
owned {D} {g} f = g

-- the words of a table, over its rule
module _ (S V K P : RattleType) (g : rule.Ghosts P.Denot S.Denot V.Denot K.Denot) (s : IsSend S) where
  -- the words may be handed over
  shared_send : IsSend (Shared.the_row S V K P g)
  shared_send = record {
    owned = λ d vs. (
      (λ vss. (tt, (tt, (tt, ((λ uss. (tt, tt)), tt))))),
      owns_keyless S s V.coded.code d.table_id (g.holds d.key) d.words d.slots,
    );
    leaving = λ k f vs. tt;
  }

  -- and shared
  pub shared_sync : IsSync (Shared.the_row S V K P g)
  shared_sync =
      let fields : IsSync (Struct (owning.shape (Shared.the_type S V K P g))) = search sendable depth 20 in
      record {
        shared =
            λ d b o ν. (
              fields.shared (d.words, (d.slots, (tt, tt))) b o ν,
              shares_keyless S s V.coded.code d.table_id (g.holds d.key) d.words d.slots ν,
            );
      }

-- the right to the memory may be handed over
lease_send : (T : RattleType) → IsSend (Lease.the_row T Heap.the_row (owned frees))
lease_send T = right_send T Heap.the_row (owned frees) frees

-- and shared
pub lease_sync : (T : RattleType) → IsSync (Lease.the_row T Heap.the_row (owned frees))
lease_sync T =
    record { shared = λ d b o ν q. part_keyless (Lease.the_row T Heap.the_row (owned frees)) (lease_send T) q d b o }

-- endings may be handed over
EndingTable-send : IsSend (EndingTable.the_row Heap.the_row (owned frees))
EndingTable-send = search (sendable, crosses, shared_send, lease_send) depth 40

-- and shared
EndingTable-sync : IsSync (EndingTable.the_row Heap.the_row (owned frees))
EndingTable-sync = search (sendable, crosses, shared_sync, lease_sync) depth 40

-- solvers that share endings may be handed over
pub Solver-send : (c : clone.Ghosts (Heap.the_row).Denot) → IsSend (Solver.the_row Heap.the_row (owned frees) c)
Solver-send c = search (sendable, crosses, maps.crosses, KeyRef-send, List-send, Deed-send, EndingTable-send, EndingTable-sync) depth 60
