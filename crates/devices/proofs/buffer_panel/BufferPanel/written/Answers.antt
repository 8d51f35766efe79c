use Rattle.devices.proofs.Decoding.{inverse}
use Rattle.devices.proofs.buffer_panel.BufferPanel.written.Goals as goal

pub returns-clause-inverse : goal.returns-clause-inverse
returns-clause-inverse g c = inverse
