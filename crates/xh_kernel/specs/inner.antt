-- What the making of a kernel goes by. No exported call's promise needs it to be read.
pub mod Making
