pub mod WireText
