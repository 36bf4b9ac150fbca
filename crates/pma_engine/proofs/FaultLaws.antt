-- The fault of a store's call, as a line answers it.
use Rattle.std.proofs.Common.{◌≡◌, true, Err, refl}
use Rattle.std.specs.Prelude.{IsErrOf}
use Rattle.segment.specs.declared.fault.StoreFault.{StoreFault}
use Rattle.segment.specs.declared.fault.StoreFault.TheVariants as store
use Rattle.pma_engine.specs.ScriptFaults.{fault_of, is_of_store, IsLineFault, IsNoScriptFault}
use Rattle.pma_engine.specs.declared.fault.ServeFault.TheVariants as serve

pub is_store_fault : (fault : StoreFault) → is_of_store (fault_of fault) ≡ true
is_store_fault store.Failed = refl
is_store_fault (store.Damaged segment why) = refl

-- where it is the disk's, a disk call failed
pub disk_failed : {T : Type 0} (fault : StoreFault) → IsErrOf {T = T} (Err (fault_of fault)) serve.Disk → fault ≡ store.Failed
disk_failed store.Failed is = refl
disk_failed (store.Damaged segment why) is = absurd cc

-- where a disk call failed, a line may meet it
pub line_fault : (fault : StoreFault) → fault ≡ store.Failed → IsLineFault (fault_of fault)
line_fault store.Failed is = tt
line_fault (store.Damaged segment why) is = absurd cc

-- it is none of the script's, and none of the outlet's
pub script_no_fault : (fault : StoreFault) → IsNoScriptFault (fault_of fault)
script_no_fault store.Failed = tt
script_no_fault (store.Damaged segment why) = tt

pub reply_no_fault : {T P : Type 0} (fault : StoreFault) → IsErrOf {T = T} (Err (fault_of fault)) serve.Reply → P
reply_no_fault store.Failed is = absurd cc
reply_no_fault (store.Damaged segment why) is = absurd cc
