-- What always holds of a block.
use Rattle.std.specs.Prelude.{◌≡◌, ℕ, length}
use Rattle.bit_blocks.specs.Form.{IsForm, numbers_of}
use Rattle.bit_blocks.specs.declared.form.Form.{Form}

-- the form is a good one, and the count is that of its numbers
pub record IsBlock (form : Form) (count : ℕ) : Type 0 where
  pub good : IsForm form
  pub size : count ≡ length (numbers_of form)
