-- What the making of a kernel's parts and the looks at several endpoints go by. No exported call's promise needs it to be read.
pub mod Making
pub mod Looking
