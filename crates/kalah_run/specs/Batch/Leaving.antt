-- What becomes of the jobs that are left when the output has failed, and the pass by which the calling thread draws them.
use Rattle.std.specs.Prelude.{◌≡◌, ◌⊎◌, Bool, true, [], false}
use Rattle.kalah_run.specs.{Desk.{Rows.{drawn_row}, States.{PassState}}, declared.batch.{receiver.Receiver.{Receiver}, request.OnFailedWrite.{OnFailedWrite, TheVariants.{Leave}}}}

-- nothing was drawn by the pass, and it is not spent
abbrev pub HasDrawnNothing : PassState → Type 0
HasDrawnNothing pass = pass.row ≡ drawn_row [] false

-- the pass is spent: so nothing is left to draw for any pass
abbrev pub NothingRemains : PassState → Type 0
NothingRemains pass = pass.row.spent ≡ true

-- the rest is left, as the output has failed
abbrev pub IsAbandoned : OnFailedWrite → Bool → Type 0
IsAbandoned on_failed_write has_failed = (on_failed_write ≡ Leave) × (has_failed ≡ true)

-- the rest is left, and nothing of it remains to be drawn
pub record IsLeft (on_failed_write : OnFailedWrite) (has_failed : Bool) (pass : PassState) : Type 0 where
  pub abandoned : IsAbandoned on_failed_write has_failed
  pub drawn : NothingRemains pass

-- The receiver has drawn by its pass only if the rest is left, and then all.
pub record DrawsOnlyTheRest (has_failed : Bool) (before after : Receiver) : Type 0 where
  pub desk : after.desk.now ≡ before.desk.now
  pub on_failed_write : after.on_failed_write ≡ before.on_failed_write
  pub drawn : (after.passes.rest_pass ≡ before.passes.rest_pass) ⊎ IsLeft before.on_failed_write has_failed after.passes.rest_pass
