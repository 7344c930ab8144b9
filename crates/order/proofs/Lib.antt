-- `Index` has the index rule of the ordered form and that ordering twice gives the bytes back; `Exchange` has runs of bytes
-- of which pairs are exchanged in place.
pub mod Exchange
pub mod Index
